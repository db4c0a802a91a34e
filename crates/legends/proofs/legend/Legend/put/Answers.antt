use Rattle.std.proofs.Common.{◌≡◌, ◌-◌, ◌≤◌, List, length, set, sym, refl, ap, ◌∙◌, arith, length-set, rules}
use borrow.Rule.Slice.PartMut.{put_mid}
use Rattle.std.specs.List.{between}
use Rattle.signs.specs.declared.SignRow.{SignRow}
use Rattle.placement.specs.Lines.{rows_of, positions_of}
use Rattle.placement.specs.Route.{route}
use Rattle.legends.specs.Span.{span_of}
use Rattle.legends.specs.Leaves.{after_put}
use Rattle.legends.proofs.Parts.{mid, step_on_part, step_on_copy}
use Rattle.legends.proofs.Steps.{same_lists, put_routed}
use Rattle.legends.proofs.legend.Legend.put.Goals as goal

pub returns : goal.returns
returns g c =
    let lent = c.args.lists.now in
    let signs = lent.signs.now in
    let mapped = lent.mapped.now in
    let positions = lent.positions.now in
    let f = g.F.Face.meaning c.args.face.now in
    let s = c.args.self.now.settings in
    let new = set signs c.args.place c.args.row in
    let p = c.span-first.result in
    let fit = c.if-not-fit.ensures.lengths refl in
    let h : p.0 ≤ p.1 = omega arith in
    let n : p.1 ≤ length mapped = omega arith in
    let l : length new ≡ length mapped = simp length-set (omega arith) in
    let part = between p.0 p.1 new in
    let copied = c.copy_part.ensures ∙ sym (mid mapped part p.0 p.1 h) in
    let rows = c.route_line.new.rows in
    let moved = c.route_line.new.positions in
    let is = c.span-first.ensures.value in
    let routed = c.in_ok-route_line.ensures in
    let a = ap (λ (t : List SignRow). put_mid p.0 (p.1 - p.0) t rows) copied
    ∙ step_on_copy new mapped part rows (λ xs. rows_of (route f s xs)) p (span_of signs c.args.place) is h n l refl (routed.rows ∙ ap (λ (t : List SignRow). rows_of (route f s (between p.0 p.1 t))) copied) in
    let b = step_on_part new mapped part positions moved (λ xs. positions_of (route f s xs)) p (span_of signs c.args.place) is h n l refl (routed.positions ∙ ap (λ (t : List SignRow). positions_of (route f s (between p.0 p.1 t))) copied) in
    let lists = same_lists a b in
    let lines = c.lines_stand.ensures in
    record { answer = search rules; lists = lists; step = λ h. lists ∙ ap (after_put f c.args.place c.args.row) h ∙ put_routed lines f c.args.self.now.len s signs c.args.place c.args.row (omega arith); same = search rules }
