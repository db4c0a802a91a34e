-- What a combining class says of a mark's place.
use Rattle.std.specs.Prelude.{ℕ, Bool, cond, List, [], ◌∷◌, Some, None, Option, ◌==◌}
use Rattle.std.specs.List.{list_any}
use Rattle.placement.specs.declared.classes.Way.{Way}
use Rattle.placement.specs.declared.classes.Way.TheVariants.{Above, Below}
use Rattle.placement.specs.declared.classes.Align.{Align}
use Rattle.placement.specs.declared.classes.Align.TheVariants.{AtLeft, AtRight, OnLeft, OnRight, Centred}
use Rattle.placement.specs.declared.direction.Direction.{Direction}
use Rattle.placement.specs.declared.direction.Direction.TheVariants.{LeftToRight, RightToLeft, TopToBottom, BottomToTop}

abbrev pub one_of : ℕ → List ℕ → Bool
one_of c xs = list_any (λ x. x == c) xs

-- Marks of these classes stand below their base, or above it; marks of any other class keep their height.
abbrev pub is_below : ℕ → Bool
is_below c = one_of c (200 ∷ 202 ∷ 218 ∷ 220 ∷ 222 ∷ 233 ∷ [])

abbrev pub is_above : ℕ → Bool
is_above c = one_of c (214 ∷ 216 ∷ 228 ∷ 230 ∷ 232 ∷ 234 ∷ [])

abbrev pub way : ℕ → Option Way
way c = cond (is_below c) (Some Below) (cond (is_above c) (Some Above) None)

-- Attached marks touch what they sit on: there is no gap before them.
abbrev pub is_attached : ℕ → Bool
is_attached c = one_of c (200 ∷ 202 ∷ 214 ∷ 216 ∷ [])

-- A double mark joins two signs: its middle stands where a horizontal line goes on, and in a vertical line it is centred.
abbrev pub doubled : Direction → Align
doubled LeftToRight = OnRight
doubled RightToLeft = OnLeft
doubled TopToBottom = Centred
doubled BottomToTop = Centred

abbrev pub align : ℕ → Direction → Align
align c d =
    cond (one_of c (200 ∷ 218 ∷ 228 ∷ [])) AtLeft
    (cond (one_of c (216 ∷ 222 ∷ 232 ∷ [])) AtRight
    (cond (one_of c (233 ∷ 234 ∷ [])) (doubled d)
    Centred))
