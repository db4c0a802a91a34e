-- The two ends of a span: how the search for the first one goes, and that a line may be cut at both.
use Rattle.std.proofs.Common.{◌≡◌, ℕ, nat_eq, zero, suc, ◌+◌, ◌<◌, ◌≤◌, Bool, true, false, not, cond, ◌⊎◌, List, [], ◌∷◌, length, take, drop, sym, refl, ap, ◌∙◌, inl, inr, arith, length-drop, length-take-le, eqb-true, Some, None, Option, unwrap_or}
use Rattle.std.specs.Option.{MatchOption}
use borrow.Author.Tests.{eqb-false}
use Rattle.std.proofs.lemmas.List.{get_or-take, drop_more, drop-drop}
use Rattle.signs.specs.declared.SignRow.{SignRow}
use Rattle.signs.specs.Rows.{is_mark, read_row}
use Rattle.placement.specs.Marks.{marks}
use Rattle.placement.specs.ByGroups.{Begins}
use Rattle.drawings.specs.Pens.{no_row}
use Rattle.legends.specs.Span.{is_mark_at, end_before, end_after}

-- what stands at the place or after it does not matter
pub before_front : (rows : List SignRow) (place n : ℕ) → n ≤ place → end_before (take place rows) n ≡ end_before rows n
before_front rows place zero h = refl
before_front rows place (suc n) h =
    let r = get_or-take place rows n no_row (omega arith) in
    ap (λ t. cond (is_mark (read_row t)) (end_before (take place rows) n) n) r ∙ ap (λ k. cond (is_mark_at rows n) k n) (before_front rows place n (omega arith))

pub whole_front : (rows : List SignRow) (place : ℕ) → place ≤ length rows → end_before (take place rows) (length (take place rows)) ≡ end_before rows place
whole_front rows place h =
    ap (end_before (take place rows)) (length-take-le place rows h) ∙ before_front rows place place (omega arith)

-- where all that stands before a place are marks, or all after the first end
marked : (b : Bool) → not b ≡ false → b ≡ true
marked true e = refl
marked false e = sym e

unmarked : (b : Bool) → not b ≡ true → b ≡ false
unmarked true e = sym e
unmarked false e = refl

before_none : (rows : List SignRow) (n : ℕ) → ((k : ℕ) → k < n → not (is_mark_at rows k) ≡ false) → end_before rows n ≡ 0
before_none rows zero all = refl
before_none rows (suc n) all =
    ap (λ b. cond b (end_before rows n) n) (marked (is_mark_at rows n) (all n (omega arith))) ∙ before_none rows n (λ k h. all k (omega arith))

before_last : (rows : List SignRow) (n i : ℕ) → i < n → not (is_mark_at rows i) ≡ true → ((k : ℕ) → i + 1 ≤ k → k < n → not (is_mark_at rows k) ≡ false) → end_before rows n ≡ i
before_last rows zero i h e after = absurd (omega arith)
before_last rows (suc n) i h e after = way (nat_eq i n) refl (λ z. before_last rows n i z e (λ k lo hi. after k lo (omega arith)))
  where
    way : (b : Bool) → nat_eq i n ≡ b → (i < n → end_before rows n ≡ i) → end_before rows (suc n) ≡ i
    way true q rest = let z = eqb-true i n q in ap (λ b. cond b (end_before rows n) n) (ap (is_mark_at rows) (sym z) ∙ unmarked (is_mark_at rows i) e) ∙ sym z
    way false q rest =
        let ne = eqb-false i n q in
        let z : i < n = omega arith in
        ap (λ b. cond b (end_before rows n) n) (marked (is_mark_at rows n) (after n (omega arith) (omega arith))) ∙ rest z

pub before_found : (rows : List SignRow) (n : ℕ) (r : Option ℕ)
    → MatchOption r ((k : ℕ) → k < n → not (is_mark_at rows k) ≡ false) (λ i. (i < n) × ((not (is_mark_at rows i) ≡ true) × ((k : ℕ) → i + 1 ≤ k → k < n → not (is_mark_at rows k) ≡ false)))
    → unwrap_or r 0 ≡ end_before rows n
before_found rows n (Some i) h = sym (before_last rows n i h.0 h.1.0 h.1.1)
before_found rows n None h = sym (before_none rows n h)

pub before_le : (rows : List SignRow) (k : ℕ) → end_before rows k ≤ k
before_le rows zero = omega arith
before_le rows (suc k) =
    elim (is_mark_at rows k) as (λ b. cond b (end_before rows k) k ≤ suc k) [ true ↦ omega (arith, before_le rows k) | false ↦ omega arith ]

marks_le : (rows : List SignRow) → marks rows ≤ length rows
marks_le [] = omega arith
marks_le (r ∷ rows) =
    elim (is_mark (read_row r)) as (λ b. cond b (suc (marks rows)) 0 ≤ suc (length rows)) [ true ↦ omega (arith, marks_le rows) | false ↦ omega arith ]

pub after_le : (rows : List SignRow) (k : ℕ) → k < length rows → end_after rows k ≤ length rows
after_le rows k h = omega (arith, marks_le (drop (k + 1) rows), length-drop (k + 1) rows)

-- the first end is 0, or a place before this one where no mark stands
pub before_begins : (rows : List SignRow) (k : ℕ) → k ≤ length rows → (end_before rows k ≡ 0) ⊎ ((end_before rows k < k) × Begins (drop (end_before rows k) rows))
before_begins rows zero h = inl refl
before_begins rows (suc k) h = way (is_mark_at rows k) refl (before_begins rows k (omega arith))
  where
    way : (b : Bool) → is_mark_at rows k ≡ b → (end_before rows k ≡ 0) ⊎ ((end_before rows k < k) × Begins (drop (end_before rows k) rows))
        → (cond b (end_before rows k) k ≡ 0) ⊎ ((cond b (end_before rows k) k < suc k) × Begins (drop (cond b (end_before rows k) k) rows))
    way true e (inl z) = inl z
    way true e (inr p) = let q = p.0 in inr (omega arith, p.1)
    way false e p = let d = drop_more rows k no_row (omega arith) in inr (omega arith, rw d e)

marks_begins : (rows : List SignRow) → Begins (drop (marks rows) rows)
marks_begins [] = tt
marks_begins (r ∷ rows) = way (is_mark (read_row r)) refl (marks_begins rows)
  where
    way : (b : Bool) → is_mark (read_row r) ≡ b → Begins (drop (marks rows) rows) → Begins (drop (cond b (suc (marks rows)) 0) (r ∷ rows))
    way true e h = h
    way false e h = e

pub after_begins : (rows : List SignRow) (k : ℕ) → Begins (drop (end_after rows k) rows)
after_begins rows k = rw (← drop-drop (marks (drop (k + 1) rows)) (k + 1) rows) (marks_begins (drop (k + 1) rows))
