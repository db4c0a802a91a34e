-- A placed mark from its parts, each as the code computes it.
use Rattle.std.proofs.Common.{◌≡◌, ℕ, ℤ, ◌+ℤ◌, Some, Option}
use Rattle.faces.specs.Meaning.{Edges}
use Rattle.placement.specs.declared.classes.Way.{Way}
use Rattle.placement.specs.declared.classes.Way.TheVariants.{Above, Below}
use Rattle.placement.specs.declared.classes.Align.{Align}
use Rattle.placement.specs.declared.extents.Extents.{Extents}
use Rattle.placement.specs.declared.extents.PlacedMark.{PlacedMark}
use Rattle.placement.specs.Placing.{placed_by, x_of, y_of}

abbrev pub assembled : ℤ → ℤ → ℤ → ℤ → ℤ → ℤ → PlacedMark
assembled x y l w b t = record { x = x; y = y; run = record { left = l; width = w; bottom = b; top = t } }

module _ (run : Extents) (m : Edges) (g : ℕ) (w : Option Way) (a : Align) {x y left width bottom top : ℤ} (ex : x ≡ x_of run m a) (el : left ≡ run.left) (ew : width ≡ run.width) where
  pub below : Some Below ≡ w → y ≡ y_of run m g (Some Below) → bottom ≡ y +ℤ m.bottom → top ≡ run.top → assembled x y left width bottom top ≡ placed_by run m g w a
  below e ey eb et = rw (← e) (cc)

  pub above : Some Above ≡ w → y ≡ y_of run m g (Some Above) → top ≡ y +ℤ m.top → bottom ≡ run.bottom → assembled x y left width bottom top ≡ placed_by run m g w a
  above e ey et eb = rw (← e) (cc)
