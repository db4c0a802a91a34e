use Rattle.std.proofs.Common.{ℤ, pos, ◌-ℤ◌, arith, w16, w32, to_z, of_z}
use Rattle.std.proofs.lemmas.Int.{ints}
use Rattle.placement.specs.Placing.{unlifted}
use Rattle.placement.proofs.Computed.{again}
use Rattle.placement.proofs.Heights.{unlifted_within, called}
use Rattle.placement.proofs.marks.Unplaced.below_offset.Goals as goal

pub returns : goal.returns
returns c =
    let edge = c.args.self.run.bottom in
    let x : ℤ = again (again (again edge -ℤ to_z w32 c.args.gap.units) -ℤ again (to_z w16 (of_z w16 c.top.result))) in
    let y : ℤ = edge -ℤ pos c.args.gap.units -ℤ c.args.self.mark.top in
    let t = called unlifted unlifted_within x y c.never_lifted.ensures (omega (arith, ints)) (omega (arith, ints), omega (arith, ints)) in
    record { value = t.0; near = t.1 }
