use Rattle.placement.proofs.Keeping.{placed_marks_keep}
use Rattle.placement.proofs.laws.placing_stands.Goals as goal

pub returns-clause-kept : goal.returns-clause-kept
returns-clause-kept c = placed_marks_keep
