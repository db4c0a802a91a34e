use Rattle.std.proofs.Common.{refl}
use Rattle.legends.proofs.laws.worked_legends_stand.Goals as goal

pub returns : goal.returns
returns c = record {
  made = refl;
  closed = refl;
  short = refl;
  last_bar = refl;
  last_letter = refl;
  last_turned = refl;
  never_put = refl;
  never_turned = refl;
  too_little = refl;
  no_place = refl;
  no_room = refl;
  accepted = refl;
  empty = refl;
  of_first = refl;
  of_mark = refl;
  of_second = refl;
  of_last = refl;
  of_alone = refl;
}
