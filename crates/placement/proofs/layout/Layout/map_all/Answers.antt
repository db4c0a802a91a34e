use Rattle.std.proofs.Common.{refl, ap, ◌∙◌}
use Rattle.placement.specs.Directions.{is_horizontal}
use Rattle.placement.specs.Mapped.{map_row, map_position}
use Rattle.placement.proofs.Maps.{map_into_more, map_into_next}
use Rattle.placement.proofs.layout.Layout.map_all.Goals as goal

pub loop-i-preserved : goal.loop-i-preserved
loop-i-preserved g c =
    let rows = c.args.rows.now in
    let f = g.F.Face.meaning c.args.self.now.face.now in
    let l = c.loop-i in
    let row = map_into_next (map_row f) rows rows l.rows l.i _ c.loop-i-test.true refl l.invariant.0 in (
      map_into_more (map_row f) rows rows l.rows l.i _ _ c.loop-i-test.true refl l.invariant.0 (c.map_row.ensures ∙ ap (map_row f) row),
      map_into_more (map_position f (is_horizontal c.args.self.now.settings.direction)) rows c.args.positions.now l.positions l.i _ _ c.loop-i-test.true c.requires l.invariant.1 (c.map_position.ensures ∙ ap (map_position f (is_horizontal c.args.self.now.settings.direction)) row),
    )
