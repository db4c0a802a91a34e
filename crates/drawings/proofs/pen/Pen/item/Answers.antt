use Rattle.drawings.proofs.Fields.{same_item}
use Rattle.drawings.proofs.Sums.{sum}
use Rattle.drawings.proofs.pen.Pen.item.Goals as goal

pub returns : goal.returns
returns c =
    let near = c.requires.0 in
    let light = c.requires.1 in
    same_item (sum _ _ near.x light.x_offset) (sum _ _ near.y light.y_offset)
