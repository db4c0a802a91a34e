use Rattle.std.proofs.Common.{◌≡◌, ℕ, List, [], ◌∷◌, ◌++◌, length, drop, ap, ◌∙◌, append-nil, rules}
use Rattle.signs.specs.declared.SignRow.{SignRow}
use Rattle.placement.specs.declared.Position.{Position}
use Rattle.placement.specs.Lines.{Cell, rows_of}
use Rattle.placement.specs.Route.{route}
use Rattle.drawings.specs.declared.Item.{Item}
use Rattle.drawings.specs.Drawing.{drawn, side}
use Rattle.incident.proofs.blank.from_blank.Goals as goal

pub returns : goal.returns
returns g c =
    let f = g.F.Face.meaning c.args.face.now in
    let s = c.args.settings in
    let cells : List Cell = route f s c.args.signs in
    let rows = c.route_line.new.rows in
    let positions = c.route_line.new.positions in
    let routed = c.in_ok-route_line.ensures in
    let unwritten : List Item = c.default-items.result ∷ c.default-items.result ∷ [] in
    let two : length rows ≡ 2 = search rules in
    let all = c.in_ok-draw_line.ensures.items
    ∙ ap (λ (k : ℕ). drawn s (side rows positions) ++ drop k unwritten) two
    ∙ append-nil (drawn s (side rows positions))
    ∙ ap (λ (x : List SignRow). drawn s (side x positions)) routed.rows
    ∙ ap (λ (x : List Position). drawn s (side (rows_of cells) x)) routed.positions
    ∙ ap (drawn s) (c.drawings_stand.ensures.side_by_side cells) in
    search (rules, all)
