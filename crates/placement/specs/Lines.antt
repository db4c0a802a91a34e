-- A line as a list of cells: each sign's row, as it is read, and its position.
use Rattle.std.specs.Prelude.{List, [], ◌∷◌, map, ℤ}
use Rattle.signs.specs.declared.SignRow.{SignRow}
use Rattle.signs.specs.Rows.{read_row}
use Rattle.placement.specs.declared.position.Position.{Position}

pub record Cell : Type 0 where
  pub row : SignRow
  pub position : Position

abbrev pub cell : SignRow → Position → Cell
cell r p = record { row = r; position = p }

-- The cells of the two lists that a caller lends.
abbrev pub cells : List SignRow → List Position → List Cell
cells [] ps = []
cells (r ∷ rs) [] = []
cells (r ∷ rs) (p ∷ ps) = cell (read_row r) p ∷ cells rs ps

abbrev pub rows_of : List Cell → List SignRow
rows_of cs = map (λ (c : Cell). c.row) cs

abbrev pub positions_of : List Cell → List Position
positions_of cs = map (λ (c : Cell). c.position) cs

abbrev pub at : ℤ → ℤ → ℤ → ℤ → Position
at xa ya xo yo = record { x_advance = xa; y_advance = ya; x_offset = xo; y_offset = yo }
