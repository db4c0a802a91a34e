-- What makes the promise worth its words: that boxes which it keeps apart do not overlap, that it speaks of each mark that
-- has a base before it, and that its marks are those that a book's rows are read as.
use Rattle.std.specs.Prelude.{◌≡◌, true, ◌⊎◌, List, ◌∷◌, ◌++◌, length, pos, ◌+ℤ◌, ◌≤ℤ◌}
use Rattle.signs.specs.declared.SignRow.{SignRow}
use Rattle.signs.specs.Rows.{is_mark, read_row}
use Rattle.faces.specs.Meaning.{FaceMeaning, Keeps}
use Rattle.looks.specs.Signs.{is_mark_row}
use Rattle.looks.specs.Groups.{AreMarks, Marked, mark_place}
use Rattle.looks.specs.Steps.{gaps, heights}
use Rattle.looks.specs.Promise.{LooksKeep}

-- What must fit is never negative, over any face that keeps its limits.
abbrev pub NeverNegative : Type 0
NeverNegative = (f : FaceMeaning) → Keeps f → (base : SignRow) (between : List SignRow) (mark : SignRow) → pos 0 ≤ℤ (pos (gaps f base between mark) +ℤ heights f base between mark)

-- Before a mark there are marks only, or it is the mark of a group.
abbrev pub Covers : Type 0
Covers = (before : List SignRow) (mark : SignRow) (after : List SignRow) → is_mark_row mark ≡ true
    → AreMarks before ⊎ ((c : Marked (before ++ mark ∷ after)) × (mark_place c ≡ length before) × (c.mark ≡ mark))

-- Classing makes no mark and unmakes none.
abbrev pub MarksAsRead : Type 0
MarksAsRead = (r : SignRow) → is_mark_row r ≡ is_mark (read_row r)

pub record LooksStand : Type 0 where
  pub promise : LooksKeep
  pub never_negative : NeverNegative
  pub covers : Covers
  pub marks_as_read : MarksAsRead
