use Rattle.std.proofs.Common.{arith}
use Rattle.std.proofs.lemmas.Int.{ints}
use Rattle.placement.proofs.Fields.{same_box}
use Rattle.placement.proofs.extents.Extents.raised.Goals as goal

pub returns-clause-value : goal.returns-clause-value
returns-clause-value c = same_box (omega (arith, ints)) (omega (arith, ints)) (omega (arith, ints)) (omega (arith, ints))
