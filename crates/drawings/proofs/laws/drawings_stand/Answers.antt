use Rattle.drawings.proofs.Stands.{drawings_stand}
use Rattle.drawings.proofs.laws.drawings_stand.Goals as goal

pub returns : goal.returns
returns c = drawings_stand c.look_stands.ensures
