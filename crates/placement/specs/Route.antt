-- The route of a line: written, classed, mapped, spaced and placed.
use Rattle.std.specs.Prelude.{List, map}
use Rattle.signs.specs.declared.SignRow.{SignRow}
use Rattle.signs.specs.Reclassing.{reclassed}
use Rattle.faces.specs.Meaning.{FaceMeaning}
use Rattle.placement.specs.declared.settings.Settings.{Settings}
use Rattle.placement.specs.Lines.{Cell}
use Rattle.placement.specs.Mapped.{mapped}
use Rattle.placement.specs.Spaces.{spaced}
use Rattle.placement.specs.Placements.{placed_line}

module _ (f : FaceMeaning) (s : Settings) where
  -- a sign up to its placement: each by itself
  abbrev pub cell_of : SignRow → Cell
  cell_of r = spaced f s (mapped f s (reclassed r))

  abbrev pub route : List SignRow → List Cell
  route rows = placed_line f s (map cell_of rows)
