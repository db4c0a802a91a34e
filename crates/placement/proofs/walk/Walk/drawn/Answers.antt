use Rattle.std.proofs.Common.{arith}
use Rattle.std.proofs.lemmas.Int.{ints}
use Rattle.placement.proofs.Fields.{same_at}
use Rattle.placement.proofs.walk.Walk.drawn.Goals as goal

pub returns : goal.returns
returns c = let zero = c.default.ensures in same_at (omega (arith, ints)) (omega (arith, ints)) (omega (arith, ints)) (omega (arith, ints))
