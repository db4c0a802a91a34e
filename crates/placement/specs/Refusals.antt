-- The number of each refusal of a line.
use Rattle.std.specs.Prelude.{ℕ}
use Rattle.placement.specs.declared.refusal.Refusal.{Refusal}
use Rattle.placement.specs.declared.refusal.Refusal.TheVariants.{Length, OutOfBounds}

abbrev pub number_of : Refusal → ℕ
number_of Length = 13
number_of OutOfBounds = 16
