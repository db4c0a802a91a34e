-- The number of each refusal, and what a call that may refuse gives, as a value.
use Rattle.std.specs.Prelude.{ℕ, Ok, Err, Result}
use Rattle.faces.specs.declared.refusal.Refusal.{Refusal}
use Rattle.faces.specs.declared.refusal.Refusal.TheVariants.{EmOutsideLimits, NotRising, CrossedEdges, BadCode}

abbrev pub number_of : Refusal → ℕ
number_of EmOutsideLimits = 1
number_of NotRising = 2
number_of CrossedEdges = 3
number_of BadCode = 4

-- what is made, by its meaning, or the number of the refusal
abbrev pub outcome : {X Y : Type 0} → (X → Y) → Result X Refusal → Result Y ℕ
outcome f (Ok x) = Ok (f x)
outcome f (Err e) = Err (number_of e)
