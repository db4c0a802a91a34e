-- Marks in their groups. On a panel a bar belongs to the letter before it: a base and the marks after it, up to the next
-- base, are one group. A place in a book is the number of rows before it.
use Rattle.std.specs.Prelude.{◌≡◌, ℕ, suc, ◌+◌, true, false, List, ◌∷◌, ◌++◌, length}
use Rattle.std.specs.List.{AllByRecursion}
use Rattle.signs.specs.declared.SignRow.{SignRow}
use Rattle.looks.specs.Signs.{is_mark_row}

abbrev pub AreMarks : List SignRow → Type 0
AreMarks rows = AllByRecursion (λ m. is_mark_row m ≡ true) rows

-- A mark in its group: the rows are those before, a base, the marks between the base and this one, this mark, and others.
pub record InGroup (rows before : List SignRow) (base : SignRow) (marks : List SignRow) (mark : SignRow) (after : List SignRow) : Type 0 where
  pub rows_are : rows ≡ before ++ base ∷ (marks ++ mark ∷ after)
  pub base_is : is_mark_row base ≡ false
  pub marks_are : AreMarks marks
  pub mark_is : is_mark_row mark ≡ true

-- A mark of a book that has a base.
pub record Marked (rows : List SignRow) : Type 0 where
  pub before : List SignRow
  pub base : SignRow
  pub marks : List SignRow
  pub mark : SignRow
  pub after : List SignRow
  pub in_group : InGroup rows before base marks mark after

-- The place of its base, and the place of the mark of its group that comes after some marks.
abbrev pub base_place : {rows : List SignRow} → Marked rows → ℕ
base_place c = length c.before

abbrev pub place_after : {rows : List SignRow} → Marked rows → List SignRow → ℕ
place_after c marks = length c.before + suc (length marks)

abbrev pub mark_place : {rows : List SignRow} → Marked rows → ℕ
mark_place c = place_after c c.marks
