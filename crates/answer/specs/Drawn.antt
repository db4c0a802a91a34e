-- A line as it is drawn: from the first place up, or from the last one down.
use Rattle.std.specs.Prelude.{ℕ, zero, suc, ◌-◌, Bool, cond, List, [], ◌∷◌, ◌++◌, length, pos, slice_index_or}
use Rattle.placement.specs.declared.Position.{Position}
use Rattle.signs.specs.declared.SignRow.{SignRow}
use Rattle.answer.specs.declared.pen.Pen.{Pen}
use Rattle.answer.specs.declared.pen.Item.{Item}
use Rattle.answer.specs.Pens.{pen_at, moved, item_at}

-- The place that is drawn after k others, of n.
abbrev pub place_at : Bool → ℕ → ℕ → ℕ
place_at forward n k = cond forward k (n - 1 - k)

abbrev pub no_row : SignRow
no_row = record { code = 0; unicode_props = 0; glyph_props = 0; lig_props = 0 }

abbrev pub nowhere : Position
nowhere = record { x_advance = pos 0; y_advance = pos 0; x_offset = pos 0; y_offset = pos 0 }

module _ (forward : Bool) (rows : List SignRow) (positions : List Position) where
  -- what stands at the place that is drawn after k others
  abbrev pub row_at : ℕ → SignRow
  row_at k = slice_index_or rows (place_at forward (length rows) k) no_row

  abbrev pub position_at : ℕ → Position
  position_at k = slice_index_or positions (place_at forward (length rows) k) nowhere

  -- the pen after k signs, and what is drawn of them
  abbrev pub pen_after : ℕ → Pen
  pen_after zero = pen_at (pos 0) (pos 0)
  pen_after (suc k) = moved (pen_after k) (position_at k)

  abbrev pub items_of : ℕ → List Item
  items_of zero = []
  items_of (suc k) = items_of k ++ item_at (pen_after k) (place_at forward (length rows) k) (row_at k) (position_at k) ∷ []
