use Rattle.std.proofs.Common.{rules}
use Rattle.std.proofs.lemmas.List.Edits.{map_over_more}
use Rattle.signs.specs.Reclassing.{reclassed}
use Rattle.placement.proofs.classing.class_all.Goals as goal

pub loop-row-preserved : goal.loop-row-preserved
loop-row-preserved c = search (rules, map_over_more reclassed)
