-- The pens of a drawing, in drawing order: words of its two passes, of which one notes the pens and the other draws.
use Rattle.std.specs.Prelude.{◌≡◌, ℕ, zero, suc, ◌-◌, ◌*◌, ◌<◌, Bool, cond, List, length, ℤ, pos, ◌+ℤ◌, slice_index_or}
use Rattle.signs.specs.declared.SignRow.{SignRow}
use Rattle.signs.specs.Rows.{row_from}
use Rattle.placement.specs.declared.Position.{Position}
use Rattle.placement.specs.Lines.{at}
use Rattle.placement.specs.Room.{Within}
use Rattle.drawings.specs.declared.item.Item.{Item}
use Rattle.drawings.specs.declared.pen.Pen.{Pen}
use Rattle.drawings.specs.Drawing.{item}

abbrev pub pen_at : ℤ → ℤ → Pen
pen_at x y = record { x = x; y = y }

abbrev pub start : Pen
start = pen_at (pos 0) (pos 0)

abbrev pub move_pen : Pen → Position → Pen
move_pen pen p = pen_at (pen.x +ℤ p.x_advance) (pen.y +ℤ p.y_advance)

abbrev pub item_at : Pen → ℕ → SignRow → Position → Item
item_at pen place row p = item place row.code (pen.x +ℤ p.x_offset) (pen.y +ℤ p.y_offset)

-- The place that is drawn after k others, of n.
abbrev pub place_at : Bool → ℕ → ℕ → ℕ
place_at forward n k = cond forward k (n - 1 - k)

abbrev pub no_row : SignRow
no_row = row_from 0 0 0 0

abbrev pub nowhere : Position
nowhere = at (pos 0) (pos 0) (pos 0) (pos 0)

-- The pen after k signs.
abbrev pub pen_after : Bool → List Position → ℕ → Pen
pen_after forward ps zero = start
pen_after forward ps (suc k) = move_pen (pen_after forward ps k) (slice_index_or ps (place_at forward (length ps) k) nowhere)

-- The item of the place that is drawn after k others, at the pen after k signs.
abbrev pub item_in_turn : Bool → List SignRow → List Position → ℕ → Item
item_in_turn forward rows ps k =
    item_at
    (pen_after forward ps k)
    (place_at forward (length ps) k)
    (slice_index_or rows (place_at forward (length ps) k) no_row)
    (slice_index_or ps (place_at forward (length ps) k) nowhere)

-- The pen before each sign is noted.
abbrev pub Penned : Bool → List Position → List Pen → Type 0
Penned forward ps pens = (k : ℕ) → k < length ps → slice_index_or pens k start ≡ pen_after forward ps k

-- A pen that at most k signs have moved.
pub record Near (k : ℕ) (pen : Pen) : Type 0 where
  pub x : Within (65535 * k) pen.x
  pub y : Within (65535 * k) pen.y
