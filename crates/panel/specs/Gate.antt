-- The sign of a gate, and the two signs that the panel shows.
use Rattle.std.specs.Prelude.{ℕ, ℤ, pos, neg_ℤ, Some, None, Ok, Option, Result}
use Rattle.faces.specs.Meaning.{FaceMeaning}
use Rattle.placement.specs.declared.Direction.TheVariants.{LeftToRight}
use Rattle.placement.specs.declared.PlacedMark.{PlacedMark}
use Rattle.placement.specs.OneMark.{one_placed}
use Rattle.panel.specs.declared.gate.GateSign.{GateSign}

abbrev pub sign : ℕ → ℕ → ℤ → ℤ → GateSign
sign l b x y = record { letter = l; bar = b; x = x; y = y }

abbrev pub placed_sign : ℕ → ℕ → Option PlacedMark → Option GateSign
placed_sign l b (Some p) = Some (sign l b p.x p.y)
placed_sign l b None = None

abbrev pub glyph_sign : FaceMeaning → ℕ → Option ℕ → Option ℕ → Option GateSign
glyph_sign f c (Some l) (Some b) = placed_sign l b (one_placed f l b c LeftToRight)
glyph_sign f c (Some l) None = None
glyph_sign f c None b = None

-- The sign of a letter with a bar of a class: none where the face lacks a glyph or a box.
abbrev pub sign_of : FaceMeaning → ℕ → ℕ → ℕ → Option GateSign
sign_of f letter bar c = glyph_sign f c (f.glyph letter) (f.glyph bar)

-- What the panel shows: the bar beneath at 150, -122 when the gate is closed, over at 150, 762 when it is locked.
abbrev pub closed_and_locked : Result (Option GateSign × Option GateSign) ℕ
closed_and_locked = Ok (Some (sign 1 2 (pos 150) (neg_ℤ (pos 122))), Some (sign 1 2 (pos 150) (pos 762)))
