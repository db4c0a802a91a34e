use Rattle.placement.specs.Placements.{zeroed}
use Rattle.placement.proofs.EachCell.{written_all}
use Rattle.placement.proofs.layout.Layout.zero_mark_advances.Goals as goal

pub returns : goal.returns
returns g c = written_all (zeroed c.args.self.now.settings.adjust) c.args.rows.now c.loop-i.positions c.args.positions.now c.loop-i.i c.loop-i-test.false c.requires.long c.loop-i.invariant.0
