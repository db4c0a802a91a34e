-- What a face answers, as one value, and the limits that every face keeps.
use Rattle.std.specs.Prelude.{◌≡◌, ℕ, ◌≤◌, ℤ, pos, negsuc, ◌≤ℤ◌, Some, Option}

-- The four edges of a box, in font units.
pub record Edges : Type 0 where
  pub left : ℤ
  pub bottom : ℤ
  pub right : ℤ
  pub top : ℤ

abbrev pub edges : ℤ → ℤ → ℤ → ℤ → Edges
edges l b r t = record { left = l; bottom = b; right = r; top = t }

-- The five answers: the units of the em, the glyph of a code, a glyph's advance across a horizontal line and down a
-- vertical one, and a glyph's box.
pub record FaceMeaning : Type 0 where
  pub em : ℕ
  pub glyph : ℕ → Option ℕ
  pub across : ℕ → ℕ
  pub down : ℕ → ℤ
  pub bounds : ℕ → Option Edges

-- An edge is a signed number of 16 bits.
pub record IsEdge (z : ℤ) : Type 0 where
  pub low : negsuc 32767 ≤ℤ z
  pub high : z ≤ℤ pos 32767

-- Left at most right, bottom at most top.
pub record IsBox (e : Edges) : Type 0 where
  pub left_right : e.left ≤ℤ e.right
  pub bottom_top : e.bottom ≤ℤ e.top
  pub left : IsEdge e.left
  pub bottom : IsEdge e.bottom
  pub right : IsEdge e.right
  pub top : IsEdge e.top

-- The limits: an em of 16 to 16384, glyphs of 1 to 65535, advances of 0 to 65535 across and -65535 to 0 down, and boxes
-- whose edges are not crossed.
pub record Keeps (m : FaceMeaning) : Type 0 where
  pub em_low : 16 ≤ m.em
  pub em_high : m.em ≤ 16384
  pub glyph_low : (code g : ℕ) → m.glyph code ≡ Some g → 1 ≤ g
  pub glyph_high : (code g : ℕ) → m.glyph code ≡ Some g → g ≤ 65535
  pub across_high : (g : ℕ) → m.across g ≤ 65535
  pub down_low : (g : ℕ) → negsuc 65534 ≤ℤ m.down g
  pub down_high : (g : ℕ) → m.down g ≤ℤ pos 0
  pub boxes : (g : ℕ) (e : Edges) → m.bounds g ≡ Some e → IsBox e
