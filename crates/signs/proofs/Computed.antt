-- The worked classes and rows, by computation.
use Rattle.std.proofs.Common.{refl}
use Rattle.signs.specs.Worked.{Worked, WorkedClasses, WorkedRows}

worked_classes : WorkedClasses
worked_classes = record {
  sheva = refl;
  meteg = refl;
  rafe = refl;
  shin_dot = refl;
  sin_dot = refl;
  holam = refl;
  varika = refl;
  dagesh = refl;
  shadda = refl;
  fathatan = refl;
  kasratan = refl;
  kasra = refl;
  alaph = refl;
  mai_han_akat = refl;
  sara_u = refl;
  mai_ek = refl;
  virama = refl;
  virama_as_sheva = refl;
  virama_of_none = refl;
  virama_placed = refl;
  thai_unlisted = refl;
  lao_above = refl;
  lao_last = refl;
  lao_below = refl;
  lao_u = refl;
  lao_tone = refl;
  tibetan_aa = refl;
  tibetan_i = refl;
  tibetan_u = refl;
  tibetan_none = refl;
  listed_otherwise = refl;
  other_block = refl;
  place = refl;
}

worked_rows : WorkedRows
worked_rows = record {
  bad_category = refl;
  bad_class = refl;
  letter_kept = refl;
  last_class_kept = refl;
  bad_is_space = refl;
  bad_is_of_type = refl;
  code_first = refl;
  category_next = refl;
  class_last = refl;
  made = refl;
  sheva = refl;
  spacing = refl;
  unread = refl;
  marks = refl;
  no_mark = refl;
  nonspacing = refl;
  class_read = refl;
  ligated = refl;
  unligated = refl;
  ligature = refl;
  components = refl;
  no_component = refl;
  mark_on = refl;
  mark_alone = refl;
  no_ligature = refl;
}

pub worked : Worked
worked = record { classes = worked_classes; rows = worked_rows }
