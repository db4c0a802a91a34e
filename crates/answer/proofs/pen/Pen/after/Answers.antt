use Rattle.std.proofs.Common.{arith}
use Rattle.std.proofs.lemmas.Int.{ints}
use Rattle.answer.proofs.Fields.{same_pen}
use Rattle.answer.proofs.pen.Pen.after.Goals as goal

pub returns : goal.returns
returns c =
    record {
      value = same_pen (omega (arith, ints)) (omega (arith, ints));
      near = λ n h.
          record {
            x = (omega (arith, ints), omega (arith, ints));
            y = (omega (arith, ints), omega (arith, ints));
          };
    }
