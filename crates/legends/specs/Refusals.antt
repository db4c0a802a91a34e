-- The number of each refusal, and what a refusal of a line or of its drawing is to a legend.
use Rattle.std.specs.Prelude.{ℕ}
use Rattle.placement.specs.declared.Refusal.{Refusal as LineRefusal}
use Rattle.placement.specs.declared.Refusal.TheVariants as line
use Rattle.drawings.specs.declared.Refusal.{Refusal as DrawingRefusal}
use Rattle.drawings.specs.declared.Refusal.TheVariants as drawing
use Rattle.legends.specs.declared.refusal.Refusal.{Refusal}
use Rattle.legends.specs.declared.refusal.Refusal.TheVariants.{Length, NoPlace, NoRoom, OutOfBounds}

abbrev pub number_of : Refusal → ℕ
number_of Length = 13
number_of NoPlace = 14
number_of NoRoom = 15
number_of OutOfBounds = 16

abbrev pub from_placement : LineRefusal → Refusal
from_placement line.Length = Length
from_placement line.OutOfBounds = OutOfBounds

abbrev pub from_drawing : DrawingRefusal → Refusal
from_drawing drawing.Length = Length
from_drawing drawing.NoRoom = NoRoom
from_drawing drawing.OutOfBounds = OutOfBounds
