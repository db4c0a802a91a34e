use Rattle.std.proofs.Common.{rules}
use Rattle.placement.proofs.MarksAhead.{marks_found}
use Rattle.placement.proofs.positioning.marks_ahead.Goals as goal

pub returns-clause-value : goal.returns-clause-value
returns-clause-value c = search (rules, marks_found)
