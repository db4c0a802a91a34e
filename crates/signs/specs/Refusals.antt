-- The number of each refusal, and what a call that may refuse gives, as a value.
use Rattle.std.specs.Prelude.{ℕ, Ok, Err, Result}
use Rattle.signs.specs.declared.refusal.Refusal.{Refusal}
use Rattle.signs.specs.declared.refusal.Refusal.TheVariants.{CodeTooLarge, UnknownCategory, UnknownClass}

abbrev pub number_of : Refusal → ℕ
number_of CodeTooLarge = 10
number_of UnknownCategory = 11
number_of UnknownClass = 12

-- what is made, by its meaning, or the number of the refusal
abbrev pub outcome : {X Y : Type 0} → (X → Y) → Result X Refusal → Result Y ℕ
outcome f (Ok x) = Ok (f x)
outcome f (Err e) = Err (number_of e)
