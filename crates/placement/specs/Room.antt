-- Boxes that leave room for every sum of a placement in 32 bits.
use Rattle.std.specs.Prelude.{ℕ, ◌+◌, ◌*◌, ◌≤◌, List, ℤ, pos, neg_ℤ, ◌≤ℤ◌, Some, None, Option}
use Rattle.std.specs.List.{AllByRecursion}
use Rattle.signs.specs.declared.SignRow.{SignRow}
use Rattle.placement.specs.declared.extents.Extents.{Extents}
use Rattle.placement.specs.declared.position.Position.{Position}
use Rattle.placement.specs.declared.walk.Walk.{Walk}

-- z lies between -n and n
abbrev pub Within : ℕ → ℤ → Type 0
Within n z = (neg_ℤ (pos n) ≤ℤ z) × (z ≤ℤ pos n)

-- Offsets reach 40000000 and boxes 32768; 255 marks of a run reach 66560 further each.
pub record Room (run : Extents) : Type 0 where
  pub left : Within 1000000 run.left
  pub width : Within 65535 run.width
  pub bottom : Within 60000000 run.bottom
  pub top : Within 60000000 run.top

abbrev pub AllRoom : Option Extents → Type 0
AllRoom (Some run) = Room run
AllRoom None = Unit {0}

-- A box of at most n units up and down.
pub record Spans (n : ℕ) (e : Extents) : Type 0 where
  pub left : Within 1000000 e.left
  pub width : Within 65535 e.width
  pub bottom : Within n e.bottom
  pub top : Within n e.top

-- A position that a line may hold: advances of up to 65535 units, offsets of up to 40000000.
pub record Light (p : Position) : Type 0 where
  pub x_advance : Within 65535 p.x_advance
  pub y_advance : Within 65535 p.y_advance
  pub x_offset : Within 40000000 p.x_offset
  pub y_offset : Within 40000000 p.y_offset

-- A walk after n marks.
pub record Near (n : ℕ) (w : Walk) : Type 0 where
  pub x : Within (65535 + 65535 * n) w.x
  pub y : Within (65535 + 65535 * n) w.y
  pub around : Spans 40032768 w.around
  pub run : Spans (40032768 + 66560 * n) w.run

-- Lists of what a line may hold.
abbrev pub AllLight : List Position → Type 0
AllLight ps = AllByRecursion Light ps

abbrev pub AllGlyphs : List SignRow → Type 0
AllGlyphs rs = AllByRecursion (λ (r : SignRow). r.code ≤ 65535) rs
