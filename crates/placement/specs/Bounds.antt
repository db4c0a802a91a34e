-- What the test of a line's bounds says, and that a route stays within them.
use Rattle.std.specs.Prelude.{◌≡◌, ◌≤◌, true, List, length}
use Rattle.signs.specs.declared.SignRow.{SignRow}
use Rattle.faces.specs.Meaning.{FaceMeaning, Keeps}
use Rattle.placement.specs.declared.position.Position.{Position}
use Rattle.placement.specs.declared.settings.Settings.{Settings}
use Rattle.placement.specs.Lines.{rows_of, positions_of}
use Rattle.placement.specs.Bounded.{bounded}
use Rattle.placement.specs.Room.{AllLight}
use Rattle.placement.specs.Route.{route}

-- Over a face within its limits, what a route of up to 256 signs leaves is within the bounds of a line.
abbrev pub WithinBounds : Type 0
WithinBounds = (f : FaceMeaning) → Keeps f → (s : Settings) (rows : List SignRow) → length rows ≤ 256 → bounded (rows_of (route f s rows)) (positions_of (route f s rows)) ≡ true

-- Within the bounds, each position is one that a placement has room for.
abbrev pub BoundedIsLight : Type 0
BoundedIsLight = (rows : List SignRow) (positions : List Position) → bounded rows positions ≡ true → AllLight positions

pub record BoundsStand : Type 0 where
  pub within_bounds : WithinBounds
  pub light : BoundedIsLight
