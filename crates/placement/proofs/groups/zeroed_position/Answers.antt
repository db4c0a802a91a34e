use Rattle.std.proofs.Common.{arith, rules}
use Rattle.std.proofs.lemmas.Int.{ints}
use Rattle.placement.specs.Placements.{less}
use Rattle.placement.proofs.Computed.{again_called}
use Rattle.placement.proofs.Fields.{same_at}
use Rattle.placement.proofs.groups.zeroed_position.Goals as goal

pub returns : goal.returns
returns c =
    let p = c.args.position in
    let light = c.requires in
    let zero = c.default.ensures in
    same_at (omega (arith, ints)) (omega (arith, ints))
    (again_called (less c.args.adjust) p.x_offset p.x_advance c.less.ensures (search rules) (omega (arith, ints)) (omega (arith, ints)))
    (again_called (less c.args.adjust) p.y_offset p.y_advance c.less-2.ensures (search rules) (omega (arith, ints)) (omega (arith, ints)))
