use Rattle.placement.proofs.WithinBounds.{bounds_stand}
use Rattle.placement.proofs.laws.bounds_stand.Goals as goal

pub returns : goal.returns
returns c = bounds_stand
