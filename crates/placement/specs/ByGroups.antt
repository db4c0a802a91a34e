-- A line by its groups: a base and the marks after it are placed by themselves, so a line may be cut before any base.
use Rattle.std.specs.Prelude.{◌≡◌, true, false, List, [], ◌∷◌, ◌++◌, map, length}
use Rattle.std.specs.List.{AllByRecursion}
use Rattle.signs.specs.declared.SignRow.{SignRow}
use Rattle.signs.specs.Rows.{is_mark, read_row}
use Rattle.signs.specs.Reclassing.{reclassed}
use Rattle.faces.specs.Meaning.{FaceMeaning}
use Rattle.placement.specs.declared.settings.Settings.{Settings}
use Rattle.placement.specs.Lines.{Cell, rows_of}
use Rattle.placement.specs.Mapped.{map_row}
use Rattle.placement.specs.Placements.{placed_line, group}
use Rattle.placement.specs.Route.{route}

abbrev pub IsMark : Cell → Type 0
IsMark c = is_mark c.row ≡ true

-- Empty, or a base first.
abbrev pub Opens : List Cell → Type 0
Opens [] = Unit {0}
Opens (c ∷ cs) = is_mark c.row ≡ false

-- A base and its marks, whatever their positions, and then the rest of the line as if it stood alone.
abbrev pub OneGroup : Type 0
OneGroup = (f : FaceMeaning) (s : Settings) (base : Cell) (marks rest : List Cell) → is_mark base.row ≡ false → AllByRecursion IsMark marks → Opens rest
    → placed_line f s (base ∷ (marks ++ rest)) ≡ group f s (base ∷ marks) ++ placed_line f s rest

-- Marks before the first base stay as they are.
abbrev pub LeadingMarks : Type 0
LeadingMarks = (f : FaceMeaning) (s : Settings) (marks rest : List Cell) → AllByRecursion IsMark marks → placed_line f s (marks ++ rest) ≡ marks ++ placed_line f s rest

-- A line may be cut before a base: both parts are placed as if each stood alone.
abbrev pub CutLines : Type 0
CutLines = (f : FaceMeaning) (s : Settings) (xs ys : List Cell) → Opens ys → placed_line f s (xs ++ ys) ≡ placed_line f s xs ++ placed_line f s ys

-- Rows of a book: empty, or first one that is read as no mark.
abbrev pub Begins : List SignRow → Type 0
Begins [] = Unit {0}
Begins (r ∷ rs) = is_mark (read_row r) ≡ false

-- So a book may be cut there too: its two parts go their routes by themselves.
abbrev pub Seam : Type 0
Seam = (f : FaceMeaning) (s : Settings) (xs ys : List SignRow) → Begins ys → route f s (xs ++ ys) ≡ route f s xs ++ route f s ys

-- A route has a cell for each sign, in their order: its row, classed, with the glyph in place of the code.
abbrev pub AsLong : Type 0
AsLong = (f : FaceMeaning) (s : Settings) (rows : List SignRow) → length (route f s rows) ≡ length rows

abbrev pub InOrder : Type 0
InOrder = (f : FaceMeaning) (s : Settings) (rows : List SignRow) → rows_of (route f s rows) ≡ map (λ (r : SignRow). map_row f (reclassed r)) rows

pub record LinesStand : Type 0 where
  pub as_long : AsLong
  pub in_order : InOrder
  pub seam : Seam
  pub one_group : OneGroup
  pub leading_marks : LeadingMarks
  pub cut_lines : CutLines
