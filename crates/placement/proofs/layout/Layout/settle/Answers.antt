use Rattle.std.proofs.Common.{sym, ap, ◌∙◌, subst, arith}
use Rattle.faces.specs.Boxes.{edges_of}
use Rattle.placement.specs.declared.extents.PlacedMark.{PlacedMark}
use Rattle.placement.specs.declared.position.Position.{Position}
use Rattle.placement.specs.Room.{Within}
use Rattle.placement.proofs.Nears.{room_of, placed_x, placed_y, wider}
use Rattle.placement.proofs.layout.Layout.settle.Goals as goal

pub drawn-requires-2-clause-x : goal.drawn-requires-2-clause-x
drawn-requires-2-clause-x g c =
    let w = c.args.walk in
    let keeps = g.F.Face.keeps c.args.self.now.face.now in
    let m = edges_of c.in-Some.bounds in
    let near = placed_x w.run m (keeps.boxes c.args.glyph m (sym c.in-Some.ensures)) _ c.args.class c.args.self.now.settings.direction c.of.result.small (room_of w c.requires.near) in
    let e = ap (λ (q : Position). q.x_offset) c.position.ensures ∙ ap (λ (p : PlacedMark). p.x) c.place-placed.ensures in
    subst (Within 40000000) (sym e) (wider 1200000 40000000 _ (omega arith) near)

pub drawn-requires-2-clause-y : goal.drawn-requires-2-clause-y
drawn-requires-2-clause-y g c =
    let w = c.args.walk in
    let keeps = g.F.Face.keeps c.args.self.now.face.now in
    let m = edges_of c.in-Some.bounds in
    let near = placed_y w.run m (keeps.boxes c.args.glyph m (sym c.in-Some.ensures)) _ c.args.class c.args.self.now.settings.direction c.of.result.small (room_of w c.requires.near) in
    let e = ap (λ (q : Position). q.y_offset) c.position.ensures ∙ ap (λ (p : PlacedMark). p.y) c.place-placed.ensures in
    subst (Within 60033792) (sym e) near
