use Rattle.std.proofs.Common.{◌≡◌, ℕ, ◌<◌, get_or}
use Rattle.drawings.specs.Pens.{start, pen_after}
use Rattle.drawings.proofs.drawing.set_pens.Given as goal

-- so far k pens are noted, and the pen stands after k signs
abbrev pub invariant-loop-k : goal.invariant-loop-k
invariant-loop-k l =
    (l.pen ≡ pen_after l.forward l.positions l.k)
    × ((j : ℕ) → j < l.k → get_or l.noted-items j start ≡ pen_after l.forward l.positions j)
