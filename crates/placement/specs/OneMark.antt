-- One mark on one base: the smallest sign that a panel shows.
use Rattle.std.specs.Prelude.{◌≡◌, ℕ, ◌/◌, cond, pos, Some, None, Option, ◌==◌}
use Rattle.faces.specs.Meaning.{FaceMeaning, Edges}
use Rattle.placement.specs.declared.direction.Direction.{Direction}
use Rattle.placement.specs.declared.extents.Extents.{Extents}
use Rattle.placement.specs.declared.extents.PlacedMark.{PlacedMark}
use Rattle.placement.specs.Placing.{placed}
use Rattle.placement.specs.Kept.{Kept}

-- The gap between a mark and what it sits on.
abbrev pub gap_of : FaceMeaning → ℕ
gap_of f = f.em / 16

-- The box of a base: as wide as its advance across, from its own bottom to its own top.
abbrev pub box_on : ℕ → Edges → Extents
box_on across e = record { left = pos 0; width = pos across; bottom = e.bottom; top = e.top }

abbrev pub base_box : ℕ → Option Edges → Option Extents
base_box across (Some e) = Some (box_on across e)
base_box across None = None

abbrev pub base_of : FaceMeaning → ℕ → Option Extents
base_of f base = base_box (f.across base) (f.bounds base)

abbrev pub placed_on : ℕ → ℕ → Direction → Option Extents → Option Edges → Option PlacedMark
placed_on gap c d (Some run) (Some m) = Some (placed run m gap c d)
placed_on gap c d (Some run) None = None
placed_on gap c d None m = None

-- A mark of class 0 is not placed by its class, and nothing is placed where either has no box.
abbrev pub one_placed : FaceMeaning → ℕ → ℕ → ℕ → Direction → Option PlacedMark
one_placed f base mark c d = cond (c == 0) None (placed_on (gap_of f) c d (base_of f base) (f.bounds mark))

-- What the place of one mark keeps, whatever the face.
abbrev pub OneKept : FaceMeaning → ℕ → ℕ → ℕ → Direction → Option PlacedMark → Type 0
OneKept f base mark c d r = (run : Extents) (m : Edges) (p : PlacedMark) → base_of f base ≡ Some run → f.bounds mark ≡ Some m → r ≡ Some p → Kept run m (gap_of f) c d p
