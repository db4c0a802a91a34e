-- The number of each refusal of a drawing.
use Rattle.std.specs.Prelude.{ℕ}
use Rattle.drawings.specs.declared.refusal.Refusal.{Refusal}
use Rattle.drawings.specs.declared.refusal.Refusal.TheVariants.{Length, NoRoom, OutOfBounds}

abbrev pub number_of : Refusal → ℕ
number_of Length = 13
number_of NoRoom = 15
number_of OutOfBounds = 16
