use Rattle.placement.specs.Directions.{is_horizontal}
use Rattle.placement.specs.Spaces.{spaced_along}
use Rattle.placement.proofs.EachCell.{written_all}
use Rattle.placement.proofs.layout.Layout.fallback_spaces.Goals as goal

pub returns : goal.returns
returns g c =
    let out = spaced_along (g.F.Face.meaning c.args.self.now.face.now) (is_horizontal c.args.self.now.settings.direction) in
    written_all out c.args.rows.now c.loop-i.positions c.args.positions.now c.loop-i.i c.loop-i-test.false c.requires c.loop-i.invariant
