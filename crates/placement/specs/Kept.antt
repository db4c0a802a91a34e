-- What one placed mark keeps, in the words of its box where it lies.
use Rattle.std.specs.Prelude.{◌≡◌, ℕ, ℤ, pos, ◌+ℤ◌, ◌-ℤ◌, ◌≤ℤ◌, Some}
use Rattle.faces.specs.Meaning.{Edges, edges}
use Rattle.placement.specs.declared.classes.Way.{Way}
use Rattle.placement.specs.declared.classes.Way.TheVariants.{Above, Below}
use Rattle.placement.specs.declared.classes.Align.TheVariants.{Centred}
use Rattle.placement.specs.declared.direction.Direction.{Direction}
use Rattle.placement.specs.declared.extents.Extents.{Extents}
use Rattle.placement.specs.declared.extents.PlacedMark.{PlacedMark}
use Rattle.placement.specs.Classes.{way, align}
use Rattle.placement.specs.Placing.{gap_before, placed}

-- A mark's box, moved to where the mark's origin went.
abbrev pub lies : PlacedMark → Edges → Edges
lies p m = edges (p.x +ℤ m.left) (p.y +ℤ m.bottom) (p.x +ℤ m.right) (p.y +ℤ m.top)

-- Between the facing edges: above, from the run's top to the mark's bottom; below, from the mark's top to the run's bottom.
abbrev pub distance : Way → Extents → Edges → ℤ
distance Above run z = z.bottom -ℤ run.top
distance Below run z = run.bottom -ℤ z.top

-- The edge from which the next mark of a run goes on, and the edge of a mark that faces away from its base.
abbrev pub last_edge : Way → Extents → ℤ
last_edge Above run = run.top
last_edge Below run = run.bottom

abbrev pub far_edge : Way → Edges → ℤ
far_edge Above z = z.top
far_edge Below z = z.bottom

-- Inward, from the sides of the run's box to the sides of a mark.
abbrev pub from_left : Extents → Edges → ℤ
from_left run z = z.left -ℤ run.left

abbrev pub from_right : Extents → Edges → ℤ
from_right run z = (run.left +ℤ run.width) -ℤ z.right

-- A difference of at most one unit.
abbrev pub Even : ℤ → ℤ → Type 0
Even a b = (a ≤ℤ (b +ℤ pos 1)) × (b ≤ℤ (a +ℤ pos 1))

-- A mark m of class c, placed as p by the box of its run.
pub record Kept (run : Extents) (m : Edges) (gap c : ℕ) (d : Direction) (p : PlacedMark) : Type 0 where
  -- it clears the run's box by the gap, or by nothing if it is attached
  pub clear : (w : Way) → way c ≡ Some w → pos (gap_before gap c) ≤ℤ distance w run (lies p m)
  -- the next mark goes on from its far edge
  pub goes_on : (w : Way) → way c ≡ Some w → last_edge w p.run ≡ far_edge w (lies p m)
  -- below its base it is never lifted
  pub unlifted : way c ≡ Some Below → p.y ≤ℤ pos 0
  -- centred, it leaves as much on its left as on its right
  pub centred : align c d ≡ Centred → Even (from_left run (lies p m)) (from_right run (lies p m))

abbrev pub PlacedMarksKeep : Type 0
PlacedMarksKeep = (run : Extents) (m : Edges) (gap c : ℕ) (d : Direction) → Kept run m gap c d (placed run m gap c d)
