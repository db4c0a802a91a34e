-- Rows that are classed.
use Rattle.std.proofs.Common.{◌≡◌, ℕ, ◌%◌, ◌≤◌, true, not, ◌&&◌, eqb, leb, sym, refl, ap, ◌∙◌, ⊎_elim, arith}
use Rattle.std.proofs.lemmas.Bool.{and_parts, and_from, or_right, cond_both, cond-true, cond-false, cases_Bool, eqb-true, le-leb}
use Rattle.signs.specs.Props.{category_of, class_of, is_mark_of, has_category, has_class, is_allowed}
use Rattle.signs.specs.Rows.{read_row}
use Rattle.signs.specs.Classes.{recategorized}
use Rattle.signs.specs.Reclassing.{with_class, recategorized_props, recategorized_row, reclassed}
use Rattle.signs.specs.Laws.{ReclassingStands}
use Rattle.signs.proofs.Tables.{recategorized_again, recategorized_high}
use Rattle.signs.proofs.Reading.{with_props, itself, allowed, mark_class_high}

module _ (p c : ℕ) where
  same_low_byte : with_class p c % 256 ≡ p % 256
  same_low_byte = omega arith

  same_category : category_of (with_class p c) ≡ category_of p
  same_category = omega arith

  other_class : class_of (with_class p c) ≡ c
  other_class = omega arith

  class_twice : with_class (with_class p c) c ≡ with_class p c
  class_twice = omega arith

  allowed_with : is_allowed p ≡ true → c ≤ 254 → is_allowed (with_class p c) ≡ true
  allowed_with h less =
      and_from (has_category (with_class p c)) (has_class (with_class p c))
      (ap (λ n. leb n 29) same_category ∙ (and_parts (has_category p) (has_class p) h).0)
      (or_right (not (is_mark_of (with_class p c))) _ (le-leb _ _ (omega arith)))

module _ (code p : ℕ) where
  nonspacing_is_mark : eqb (category_of p) 12 ≡ true → is_mark_of p ≡ true
  nonspacing_is_mark mark = ap (λ n. leb 10 n && leb n 12) (eqb-true (category_of p) 12 mark)

  -- a nonspacing mark of another class is a sign again
  pub classed_allowed : is_allowed p ≡ true → eqb (category_of p) 12 ≡ true → is_allowed (with_class p (recategorized code (class_of p))) ≡ true
  classed_allowed h mark =
      allowed_with p (recategorized code (class_of p)) h (recategorized_high code (class_of p) (mark_class_high p h (nonspacing_is_mark mark)))

  -- what holds of the properties with another class, and of the properties, holds of those of the classed sign
  either : (P : ℕ → Type 0) → (eqb (category_of p) 12 ≡ true → P (with_class p (recategorized code (class_of p)))) → P p → P (recategorized_props code p)
  either P mark other = cond_both (eqb (category_of p) 12) _ p P mark (λ h. other)

  props_twice : recategorized_props code (recategorized_props code p) ≡ recategorized_props code p
  props_twice =
      let c : ℕ = recategorized code (class_of p) in
      ⊎_elim
      (λ mark.
      let first : recategorized_props code p ≡ with_class p c = cond-true _ _ _ mark in
      ap (recategorized_props code) first
      ∙ cond-true _ _ _ (ap (λ n. eqb n 12) (same_category p c) ∙ mark)
      ∙ ap (with_class (with_class p c)) (ap (recategorized code) (other_class p c) ∙ recategorized_again code (class_of p))
      ∙ class_twice p c
      ∙ sym first)
      (λ other. ap (recategorized_props code) (cond-false _ _ _ other))
      (cases_Bool (eqb (category_of p) 12))

pub reclassing_stands : ReclassingStands
reclassing_stands r =
    let code : ℕ = r.code in
    let p : ℕ = (read_row r).unicode_props in
    let c : ℕ = recategorized code (class_of p) in
    let category : category_of (recategorized_props code p) ≡ category_of p = either code p (λ x. category_of x ≡ category_of p) (λ h. same_category p c) refl in
    let read : read_row (reclassed r) ≡ reclassed r = itself (reclassed r) (either code p (λ x. is_allowed x ≡ true) (classed_allowed code p (allowed r)) (allowed r)) in
    record {
      others = λ h. ap (with_props r) (cond-false _ _ _ h);
      marks = λ h. ap class_of (cond-true _ _ _ h) ∙ other_class p c;
      keeps_code = refl;
      keeps_glyph = refl;
      keeps_ligature = refl;
      keeps_low_byte = either code p (λ x. x % 256 ≡ p % 256) (λ h. same_low_byte p c) refl;
      keeps_category = category;
      keeps_marks = ap (λ n. leb 10 n && leb n 12) category;
      read = read;
      again = ap recategorized_row read ∙ ap (with_props r) (props_twice code p);
    }
