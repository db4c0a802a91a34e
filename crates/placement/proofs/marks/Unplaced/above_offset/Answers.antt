use Rattle.std.proofs.Common.{ℤ, pos, ◌+ℤ◌, ◌-ℤ◌, arith, w16, w32, to_z, of_z}
use Rattle.std.proofs.lemmas.Int.{ints}
use Rattle.placement.specs.Placing.{half_sunk}
use Rattle.placement.proofs.Computed.{again}
use Rattle.placement.proofs.Heights.{half_sunk_within, called}
use Rattle.placement.proofs.marks.Unplaced.above_offset.Goals as goal

pub returns : goal.returns
returns c =
    let edge = c.args.self.run.top in
    let x : ℤ = again (again (again edge +ℤ to_z w32 c.args.gap.units) -ℤ again (to_z w16 (of_z w16 c.bottom.result))) in
    let y : ℤ = edge +ℤ pos c.args.gap.units -ℤ c.args.self.mark.bottom in
    let t = called half_sunk half_sunk_within x y c.half_sinking.ensures (omega (arith, ints)) (omega (arith, ints), omega (arith, ints)) in
    record { value = t.0; near = t.1 }
