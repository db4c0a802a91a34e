use Rattle.std.proofs.Common.{◌≡◌, ◌++◌, take, drop}
use Rattle.drawings.specs.Drawing.{drawn_in, side}
use Rattle.drawings.proofs.drawing.draw_items.Given as goal

-- so far the first k items are drawn
abbrev pub invariant-loop-k : goal.invariant-loop-k
invariant-loop-k l = l.drawn-items ≡ take l.k (drawn_in l.forward (side l.rows l.positions)) ++ drop l.k l.initial.drawn-items
