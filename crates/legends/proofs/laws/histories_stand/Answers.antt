use Rattle.legends.proofs.AfterCalls.{histories_stand}
use Rattle.legends.proofs.laws.histories_stand.Goals as goal

pub returns : goal.returns
returns c = histories_stand c.lines_stand.ensures c.bounds_stand.ensures c.drawings_stand.ensures
