use Rattle.std.proofs.Common.{arith}
use Rattle.std.proofs.lemmas.Int.{ints}
use Rattle.answer.proofs.Fields.{same_item}
use Rattle.answer.proofs.pen.Pen.item.Goals as goal

pub returns : goal.returns
returns c = same_item (omega (arith, ints)) (omega (arith, ints))
