use Rattle.std.proofs.Common.{◌≡◌, vec_items}
use Rattle.answer.specs.Pens.{Near}
use Rattle.answer.specs.Drawn.{items_of, pen_after}
use Rattle.answer.proofs.drawing.draw_all.Given as goal

-- so far k signs are drawn
abbrev pub invariant-loop-k : goal.invariant-loop-k
invariant-loop-k l =
    (vec_items l.items ≡ items_of l.forward l.rows l.positions l.k)
    × (l.pen ≡ pen_after l.forward l.rows l.positions l.k)
    × Near l.k l.pen
