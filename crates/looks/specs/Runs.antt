-- Runs of marks. Bars of one class over one letter are stacked: each goes on from the one before. Such marks make a run,
-- which ends at a mark of another class or component; marks of class 0 are passed over.
use Rattle.std.specs.Prelude.{Bool, true, ◌&&◌, ◌||◌, List, [], ◌∷◌, ◌==◌}
use Rattle.signs.specs.declared.SignRow.{SignRow}
use Rattle.looks.specs.Signs.{row_class, row_component}

-- Two marks of one class and one component of their base.
abbrev pub alike : SignRow → SignRow → SignRow → Bool
alike base m z = row_class m == row_class z && row_component base m == row_component base z

-- What may stand between two marks of a run: marks of class 0, and more of its own.
abbrev pub within_run : SignRow → SignRow → List SignRow → Bool
within_run base z [] = true
within_run base z (m ∷ ms) = (row_class m == 0 || alike base m z) && within_run base z ms

-- An earlier mark m of the run of a mark z, with the marks ms between them.
abbrev pub same_run : SignRow → SignRow → List SignRow → SignRow → Bool
same_run base m ms z = alike base m z && within_run base z ms
