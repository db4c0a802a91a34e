use Rattle.std.proofs.Common.{refl, arith, rules}
use Rattle.std.proofs.lemmas.Int.{ints}
use Rattle.placement.specs.Walks.{corrected}
use Rattle.placement.proofs.Computed.{again_called}
use Rattle.placement.proofs.Fields.{same_walk}
use Rattle.placement.proofs.walk.Walk.pass.Goals as goal

pub returns : goal.returns
returns c =
    let w = c.args.self in
    let p = c.args.position in
    let near = c.requires.near in
    let light = c.requires.light in
    same_walk
    (again_called (corrected c.args.forward) w.x p.x_advance c.corrected.ensures (search rules) (omega (arith, ints)) (omega (arith, ints)))
    (again_called (corrected c.args.forward) w.y p.y_advance c.corrected-2.ensures (search rules) (omega (arith, ints)) (omega (arith, ints)))
    refl refl refl refl
