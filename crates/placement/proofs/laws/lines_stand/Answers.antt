use Rattle.placement.proofs.ByGroups.{lines_stand}
use Rattle.placement.proofs.laws.lines_stand.Goals as goal

pub returns : goal.returns
returns c = lines_stand c.signs_stand.ensures.reclassing
