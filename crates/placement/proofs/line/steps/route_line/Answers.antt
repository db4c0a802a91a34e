use Rattle.std.proofs.Common.{List, sym, ap, ◌∙◌, subst}
use mathlib.Core.List.{map-map}
use Rattle.signs.specs.declared.SignRow.{SignRow}
use Rattle.signs.specs.Reclassing.{reclassed}
use Rattle.placement.specs.declared.position.Position.{Position}
use Rattle.placement.specs.Lines.{Cell, cells, positions_of}
use Rattle.placement.specs.Mapped.{map_row}
use Rattle.placement.specs.Placements.{placed_line}
use Rattle.placement.specs.Room.{AllGlyphs, AllLight}
use Rattle.placement.proofs.ByGroups.{in_order}
use Rattle.placement.proofs.Routing.{mapped_rows, rows_are, spaces_are, cells_routed, routed_glyphs, routed_light}
use Rattle.placement.proofs.line.steps.route_line.Goals as goal

pub position_marks-requires-clause-glyphs : goal.position_marks-requires-clause-glyphs
position_marks-requires-clause-glyphs g c =
    let f = g.F.Face.meaning c.args.face.now in
    let s = c.args.settings in
    let rows = c.args.rows.now in
    subst AllGlyphs (sym (rows_are f s rows c.class_all.ensures c.map_all.ensures.rows)) (routed_glyphs f s (g.F.Face.keeps c.args.face.now) rows)

pub position_marks-requires-clause-light : goal.position_marks-requires-clause-light
position_marks-requires-clause-light g c =
    let f = g.F.Face.meaning c.args.face.now in
    let s = c.args.settings in
    let rows = c.args.rows.now in
    let es = spaces_are f s rows c.class_all.ensures c.map_all.ensures.rows c.map_all.ensures.positions c.fallback_spaces.ensures in
    subst AllLight (sym es) (routed_light f s (g.F.Face.keeps c.args.face.now) rows)

pub returns-clause-rows : goal.returns-clause-rows
returns-clause-rows g c =
    let f = g.F.Face.meaning c.args.face.now in
    let s = c.args.settings in
    let rows = c.args.rows.now in
    rows_are f s rows c.class_all.ensures c.map_all.ensures.rows ∙ map-map (map_row f) reclassed rows ∙ sym (in_order f s rows)

pub returns-clause-positions : goal.returns-clause-positions
returns-clause-positions g c =
    let f = g.F.Face.meaning c.args.face.now in
    let s = c.args.settings in
    let rows = c.args.rows.now in
    let er = rows_are f s rows c.class_all.ensures c.map_all.ensures.rows in
    let es = spaces_are f s rows c.class_all.ensures c.map_all.ensures.rows c.map_all.ensures.positions c.fallback_spaces.ensures in
    c.position_marks.ensures
    ∙ ap (λ (x : List SignRow). positions_of (placed_line f s (cells x c.fallback_spaces.new.positions))) er
    ∙ ap (λ (x : List Position). positions_of (placed_line f s (cells (mapped_rows f s rows) x))) es
    ∙ ap (λ (x : List Cell). positions_of (placed_line f s x)) (cells_routed f s rows)
