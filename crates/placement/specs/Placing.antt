-- Where one mark goes by the box of its run, and that box after it. Divisions round toward zero.
use Rattle.std.specs.Prelude.{ℕ, cond, ℤ, pos, ◌+ℤ◌, ◌-ℤ◌, neg_ℤ, Some, None, Option, int_div, int_lt}
use Rattle.faces.specs.Meaning.{Edges}
use Rattle.placement.specs.declared.classes.Way.{Way}
use Rattle.placement.specs.declared.classes.Way.TheVariants.{Above, Below}
use Rattle.placement.specs.declared.classes.Align.{Align}
use Rattle.placement.specs.declared.classes.Align.TheVariants.{AtLeft, AtRight, OnLeft, OnRight, Centred}
use Rattle.placement.specs.declared.direction.Direction.{Direction}
use Rattle.placement.specs.declared.extents.Extents.{Extents}
use Rattle.placement.specs.declared.extents.PlacedMark.{PlacedMark}
use Rattle.placement.specs.Classes.{way, align, is_attached}

abbrev pub half : ℤ → ℤ
half z = int_div z (pos 2)

abbrev pub width_of : Edges → ℤ
width_of m = m.right -ℤ m.left

-- Where the left edge of a mark of width w goes: to a side of the run's box, with the mark's middle on a side, or so that
-- the mark is centred.
abbrev pub left_edge : Extents → ℤ → Align → ℤ
left_edge run w AtLeft = run.left
left_edge run w AtRight = run.left +ℤ run.width -ℤ w
left_edge run w OnLeft = run.left -ℤ half w
left_edge run w OnRight = run.left +ℤ run.width -ℤ half w
left_edge run w Centred = run.left +ℤ half (run.width -ℤ w)

abbrev pub x_of : Extents → Edges → Align → ℤ
x_of run m a = left_edge run (width_of m) a -ℤ m.left

-- The gap before a mark: none if it is attached.
abbrev pub gap_before : ℕ → ℕ → ℕ
gap_before gap c = cond (is_attached c) 0 gap

-- A mark below is never lifted.
abbrev pub unlifted : ℤ → ℤ
unlifted y = cond (int_lt (pos 0) y) (pos 0) y

-- A mark above that would sink rises by half of the way, rounded down.
abbrev pub half_sunk : ℤ → ℤ
half_sunk y = cond (int_lt (pos 0) y) y (y +ℤ half (neg_ℤ y))

-- Up: the top of a mark below goes a gap under the run's bottom, the bottom of a mark above a gap over the run's top.
abbrev pub y_of : Extents → Edges → ℕ → Option Way → ℤ
y_of run m g (Some Below) = unlifted (run.bottom -ℤ pos g -ℤ m.top)
y_of run m g (Some Above) = half_sunk (run.top +ℤ pos g -ℤ m.bottom)
y_of run m g None = pos 0

-- The run's box reaches to the far edge of a mark that went up by y.
abbrev pub reached : Extents → Edges → ℤ → Option Way → Extents
reached run m y (Some Below) = record { left = run.left; width = run.width; bottom = y +ℤ m.bottom; top = run.top }
reached run m y (Some Above) = record { left = run.left; width = run.width; bottom = run.bottom; top = y +ℤ m.top }
reached run m y None = run

abbrev pub placed_by : Extents → Edges → ℕ → Option Way → Align → PlacedMark
placed_by run m g w a = record { x = x_of run m a; y = y_of run m g w; run = reached run m (y_of run m g w) w }

-- A mark of a class, placed by the box of its run.
abbrev pub placed : Extents → Edges → ℕ → ℕ → Direction → PlacedMark
placed run m gap c d = placed_by run m (gap_before gap c) (way c) (align c d)
