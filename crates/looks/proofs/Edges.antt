-- One mark: the edges that face along its run, and its sides.
use Rattle.std.proofs.Common.{◌≡◌, ℕ, ℤ, pos, ◌+ℤ◌, ◌-ℤ◌, neg_ℤ, ◌≤ℤ◌, Some, None, Option, refl, ap, arith}
use Rattle.std.proofs.lemmas.Int.{ints}
use Rattle.faces.specs.Meaning.{Edges}
use Rattle.placement.specs.declared.classes.Way.{Way}
use Rattle.placement.specs.declared.classes.Way.TheVariants.{Above, Below}
use Rattle.placement.specs.declared.classes.Align.TheVariants.{Centred}
use Rattle.placement.specs.declared.Direction.{Direction}
use Rattle.placement.specs.declared.Extents.{Extents}
use Rattle.placement.specs.Classes.{way, align}
use Rattle.placement.specs.Placing.{gap_before, reached, placed}
use Rattle.placement.specs.Kept.{Kept, Even, PlacedMarksKeep}
use Rattle.placement.specs.Walks.{ink}
use Rattle.looks.specs.Shares.{Sides}

-- a measured mark has a box
pub inked : (a : Option Edges) (e : Edges) → ink a ≡ Some e → a ≡ Some e
inked a e h = h

-- the edge of a run's box that faces its next mark
abbrev pub front : Way → Extents → ℤ
front Above e = e.top
front Below e = neg_ℤ e.bottom

-- the edges of a mark that went up by y: the one that faces where the run came from, and the other
abbrev pub near : Way → ℤ → Edges → ℤ
near Above y m = y +ℤ m.bottom
near Below y m = neg_ℤ (y +ℤ m.top)

abbrev pub far : Way → ℤ → Edges → ℤ
far Above y m = y +ℤ m.top
far Below y m = neg_ℤ (y +ℤ m.bottom)

pub tall : (d : Way) (y : ℤ) (m : Edges) → far d y m ≡ near d y m +ℤ (m.top -ℤ m.bottom)
tall Above y m = omega (arith, ints)
tall Below y m = omega (arith, ints)

module _ (keep : PlacedMarksKeep) (gap c : ℕ) (dir : Direction) (run : Extents) (m : Edges) where
  abbrev kept : Kept run m gap c dir (placed run m gap c dir)
  kept = keep run m gap c dir

  pub clears : (d : Way) → way c ≡ Some d → (front d run +ℤ pos (gap_before gap c)) ≤ℤ near d (placed run m gap c dir).y m
  clears Above h = let k = kept.clear Above h in omega (arith, ints, k)
  clears Below h = let k = kept.clear Below h in omega (arith, ints, k)

  pub grows : (d : Way) → way c ≡ Some d → front d (placed run m gap c dir).run ≡ far d (placed run m gap c dir).y m
  grows Above h = kept.goes_on Above h
  grows Below h = ap neg_ℤ (kept.goes_on Below h)

  pub centres : align c dir ≡ Centred → Even ((placed run m gap c dir).x +ℤ m.left -ℤ run.left) ((run.left +ℤ run.width) -ℤ ((placed run m gap c dir).x +ℤ m.right))
  centres h = kept.centred h

-- a run's sides stay
abbrev pub sides_of : Extents → Sides
sides_of e = record { left = e.left; width = e.width }

pub reached_sides : (o : Option Way) (run : Extents) (m : Edges) (y : ℤ) → sides_of (reached run m y o) ≡ sides_of run
reached_sides None run m y = refl
reached_sides (Some Above) run m y = refl
reached_sides (Some Below) run m y = refl
