-- What the direction of a line says.
use Rattle.std.specs.Prelude.{ℕ, Bool, true, false, cond, ◌==◌, Ok, Err, Result}
use Rattle.placement.specs.declared.direction.Direction.{Direction}
use Rattle.placement.specs.declared.direction.Direction.TheVariants.{LeftToRight, RightToLeft, TopToBottom, BottomToTop}
use Rattle.placement.specs.declared.direction.UnknownDirection.{UnknownDirection}

-- Forward, the pen draws the first sign first.
abbrev pub is_forward : Direction → Bool
is_forward LeftToRight = true
is_forward RightToLeft = false
is_forward TopToBottom = true
is_forward BottomToTop = false

abbrev pub is_horizontal : Direction → Bool
is_horizontal LeftToRight = true
is_horizontal RightToLeft = true
is_horizontal TopToBottom = false
is_horizontal BottomToTop = false

-- The direction that a number stands for: 1 to 4, in this order. No other number stands for one.
abbrev pub numbered : ℕ → Result Direction UnknownDirection
numbered n =
    cond (n == 1) (Ok LeftToRight)
    (cond (n == 2) (Ok RightToLeft)
    (cond (n == 3) (Ok TopToBottom)
    (cond (n == 4) (Ok BottomToTop)
    (Err (record { 0 = n })))))
