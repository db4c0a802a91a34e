use Rattle.std.proofs.Common.{◌≡◌, ◌++◌, map, take, drop}
use Rattle.signs.specs.Reclassing.{reclassed}
use Rattle.placement.proofs.classing.class_all.Given as goal

abbrev pub invariant-loop-row : goal.invariant-loop-row
invariant-loop-row l = l.rows ≡ map reclassed (take l.row-index l.initial.rows) ++ drop l.row-index l.initial.rows
