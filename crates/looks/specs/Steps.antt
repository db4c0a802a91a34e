-- Steps along a run: what must fit between a sign and a later mark. Each measured mark of the run keeps its gap, and what
-- lies between two marks has its height, so the room that a stack of bars takes is a sum of gaps and heights.
use Rattle.std.specs.Prelude.{ℕ, ◌+◌, cond, List, [], ◌∷◌, ℤ, pos, ◌+ℤ◌, ◌-ℤ◌, Some, None, Option}
use Rattle.signs.specs.declared.SignRow.{SignRow}
use Rattle.faces.specs.Meaning.{FaceMeaning, Edges}
use Rattle.placement.specs.Placing.{gap_before}
use Rattle.placement.specs.OneMark.{gap_of}
use Rattle.looks.specs.Signs.{row_class}
use Rattle.looks.specs.Measured.{measure}
use Rattle.looks.specs.Runs.{same_run}

-- The box of m where m is a mark stepped to on the way to z: a measured mark of the run of z.
abbrev pub stepped_to : FaceMeaning → SignRow → SignRow → List SignRow → SignRow → Option Edges
stepped_to f base m ms z = cond (same_run base m ms z) (measure f m) None

abbrev pub gap_if : FaceMeaning → ℕ → Option Edges → ℕ
gap_if f c None = 0
gap_if f c (Some e) = gap_before (gap_of f) c

abbrev pub height_if : Option Edges → ℤ
height_if None = pos 0
height_if (Some e) = e.top -ℤ e.bottom

-- The gaps of the marks stepped to after a sign, up to z, with the marks ms between the sign and z.
abbrev pub gaps : FaceMeaning → SignRow → List SignRow → SignRow → ℕ
gaps f base [] z = gap_before (gap_of f) (row_class z)
gaps f base (m ∷ ms) z = gap_if f (row_class m) (stepped_to f base m ms z) + gaps f base ms z

-- The heights of those that are passed: stepped to before z.
abbrev pub heights : FaceMeaning → SignRow → List SignRow → SignRow → ℤ
heights f base [] z = pos 0
heights f base (m ∷ ms) z = height_if (stepped_to f base m ms z) +ℤ heights f base ms z
