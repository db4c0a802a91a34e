use Rattle.drawings.proofs.Fields.{same_pen}
use Rattle.drawings.proofs.Sums.{sum, wider}
use Rattle.drawings.proofs.pen.Pen.after.Goals as goal

pub returns : goal.returns
returns c =
    let near = c.requires.0 in
    let light = c.requires.1 in
    same_pen (sum _ _ near.x (wider _ light.x_advance)) (sum _ _ near.y (wider _ light.y_advance))
