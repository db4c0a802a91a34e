-- Rows that are read.
use Rattle.std.proofs.Common.{◌≡◌, ℕ, ◌≤◌, true, not, ◌||◌, leb, sym, refl, ap, ◌∙◌}
use Rattle.std.proofs.lemmas.Bool.{and_parts, cond_both, cond-true, leb-true}
use Rattle.signs.specs.declared.row.SignRow.{SignRow}
use Rattle.signs.specs.Props.{category_of, class_of, is_mark_of, has_category, has_class, is_allowed}
use Rattle.signs.specs.Rows.{row_from, read_row}
use Rattle.signs.specs.Signs.{row_of}
use Rattle.signs.specs.Laws.{ReadingStands, SignsReadThemselves}

abbrev pub with_props : SignRow → ℕ → SignRow
with_props r p = row_from r.code p r.glyph_props r.lig_props

pub itself : (r : SignRow) → is_allowed r.unicode_props ≡ true → read_row r ≡ r
itself r h = ap (with_props r) (cond-true (is_allowed r.unicode_props) r.unicode_props 4637 h)

pub allowed : (r : SignRow) → is_allowed (read_row r).unicode_props ≡ true
allowed r =
    let p = r.unicode_props in
    cond_both (is_allowed p) p 4637 (λ x. is_allowed x ≡ true) (λ h. h) (λ h. refl)

category_high : (p : ℕ) → is_allowed p ≡ true → category_of p ≤ 29
category_high p h = leb-true _ _ (and_parts (has_category p) (has_class p) h).0

pub mark_class_high : (p : ℕ) → is_allowed p ≡ true → is_mark_of p ≡ true → class_of p ≤ 254
mark_class_high p h mark =
    leb-true _ _ (sym (ap (λ b. not b || leb (class_of p) 254) mark) ∙ (and_parts (has_category p) (has_class p) h).1)

pub reading_stands : ReadingStands
reading_stands r = record {
  itself = itself r;
  allowed = allowed r;
  has_category = category_high _ (allowed r);
  has_class = mark_class_high _ (allowed r);
  again = itself (read_row r) (allowed r);
}

pub signs_read_themselves : SignsReadThemselves
signs_read_themselves s = itself (row_of s) s.allowed
