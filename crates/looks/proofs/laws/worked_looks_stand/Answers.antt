use Rattle.std.proofs.Common.{refl}
use Rattle.looks.proofs.laws.worked_looks_stand.Goals as goal

pub returns : goal.returns
returns c = record {
  classed = refl;
  not_read = refl;
  backward = refl;
  downward = refl;
  upward = refl;
  double_forward = refl;
  double_backward = refl;
  quarter = refl;
  bare = refl;
  bare_back = refl;
  ligature = refl;
  ligature_backward = refl;
  none_named = refl;
  other_ligature = refl;
  two_gaps = refl;
  one_height = refl;
  broken = refl;
  attached = refl;
  same_on_component = refl;
  other_on_component = refl;
  whole_base = refl;
  own_box = refl;
  first_from_right = refl;
}
