use Rattle.looks.proofs.Beside.{looks_stand}
use Rattle.looks.proofs.laws.look_stands.Goals as goal

pub returns : goal.returns
returns c = looks_stand c.placing_stands.ensures.kept c.lines_stand.ensures c.signs_stand.ensures.reclassing
