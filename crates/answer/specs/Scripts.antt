-- The number of a script: its four letters as the digits of a number to the base 256; 0 for "-".
use Rattle.std.specs.Prelude.{ℕ, ◌+◌, ◌*◌, cond, List, [], ◌∷◌, Some, None, Option, ◌==◌}

abbrev pub script_number : List ℕ → Option ℕ
script_number [] = None
script_number (a ∷ []) = cond (a == 45) (Some 0) None
script_number (a ∷ b ∷ []) = None
script_number (a ∷ b ∷ c ∷ []) = None
script_number (a ∷ b ∷ c ∷ d ∷ []) = Some (a * 16777216 + b * 65536 + c * 256 + d)
script_number (a ∷ b ∷ c ∷ d ∷ e ∷ s) = None
