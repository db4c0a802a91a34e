-- The marks that stand at a place of a list.
use Rattle.std.proofs.Common.{◌≡◌, ℕ, suc, ◌+◌, ◌≤◌, Bool, true, false, not, cond, ltb, List, [], ◌∷◌, length, drop, Some, None, sym, refl, ◌∙◌, subst, arith, length-drop}
use Rattle.std.specs.List.{position, position_or_len}
use Rattle.std.specs.Option.{unwrap_or}
use Rattle.std.proofs.lemmas.Bool.{ltb-false}
use Rattle.signs.specs.declared.SignRow.{SignRow}
use Rattle.signs.specs.Rows.{is_mark, read_row}
use Rattle.placement.specs.Marks.{marks, is_base}

marks_are : (rows : List SignRow) → marks rows ≡ position_or_len is_base rows
marks_are [] = refl
marks_are (r ∷ rows) =
    elim (is_mark (read_row r)) as (λ b. cond b (suc (marks rows)) 0 ≡ cond (not (not b)) (1 + position_or_len is_base rows) 0) [ true ↦ omega (arith, marks_are rows) | false ↦ refl ]

pub marks_le : (rows : List SignRow) → marks rows ≤ length rows
marks_le [] = omega arith
marks_le (r ∷ rows) =
    elim (is_mark (read_row r)) as (λ b. cond b (suc (marks rows)) 0 ≤ suc (length rows)) [ true ↦ omega (arith, marks_le rows) | false ↦ omega arith ]

pub after_le : (rows : List SignRow) (k : ℕ) → k ≤ length rows → k + marks (drop k rows) ≤ length rows
after_le rows k h = omega (arith, marks_le (drop k rows), length-drop k rows)

-- they are the place of the first base, or all of them
found : (n len : ℕ) (b : Bool) → n ≤ len → ltb n len ≡ b → unwrap_or (cond b (Some n) None) len ≡ n
found n len true h e = refl
found n len false h e = omega (arith, h, ltb-false n len e)

pub marks_found : (rows : List SignRow) → unwrap_or (position is_base rows) (length rows) ≡ marks rows
marks_found rows = let e = marks_are rows in found (position_or_len is_base rows) (length rows) _ (subst (λ n. n ≤ length rows) e (marks_le rows)) refl ∙ sym e
