-- The pen: where a sign lies, and where the pen goes on from.
use Rattle.std.specs.Prelude.{ℕ, ◌*◌, ℤ, pos, ◌+ℤ◌, neg_ℤ, ◌≤ℤ◌}
use Rattle.placement.specs.declared.Position.{Position}
use Rattle.signs.specs.declared.SignRow.{SignRow}
use Rattle.answer.specs.declared.pen.Pen.{Pen}
use Rattle.answer.specs.declared.pen.Item.{Item}

abbrev pub pen_at : ℤ → ℤ → Pen
pen_at x y = record { x = x; y = y }

abbrev pub moved : Pen → Position → Pen
moved p q = pen_at (p.x +ℤ q.x_advance) (p.y +ℤ q.y_advance)

abbrev pub item_at : Pen → ℕ → SignRow → Position → Item
item_at p k r q = record { place = k; glyph = r.code; x = p.x +ℤ q.x_offset; y = p.y +ℤ q.y_offset }

abbrev pub Within : ℕ → ℤ → Type 0
Within n z = (neg_ℤ (pos n) ≤ℤ z) × (z ≤ℤ pos n)

-- The pen after n advances of 32 bits.
pub record Near (n : ℕ) (p : Pen) : Type 0 where
  pub x : Within (2147483648 * n) p.x
  pub y : Within (2147483648 * n) p.y
