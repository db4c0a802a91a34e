use Rattle.std.proofs.Common.{refl}
use Rattle.looks.proofs.laws.worked_signs_stand.Goals as goal

pub returns : goal.returns
returns c = record {
  closed = refl;
  locked = refl;
  locked_twice = refl;
  sinking = refl;
  rising = refl;
  sheva = refl;
  mai_han_akat = refl;
  phinthu = refl;
  phinthu_placed = refl;
  dagesh = refl;
  third = refl;
  sixteenth = refl;
  four_eighteenths = refl;
  third_down = refl;
  halved = refl;
  arabic = refl;
  garay = refl;
  latin = refl;
  old_italic = refl;
  other_case = refl;
}
