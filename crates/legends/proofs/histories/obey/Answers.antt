use Rattle.std.proofs.Common.{rules, ◌≡◌, List, ◌++◌, cond, length, take, min, ltb, is_ok, Ok, Err, sym, refl, ap, ◌∙◌}
use Rattle.placement.specs.Bounded.{bounded}
use Rattle.drawings.specs.declared.Item.{Item}
use Rattle.drawings.specs.declared.Pen.{Pen}
use Rattle.drawings.specs.Drawing.{drawn_over}
use Rattle.legends.specs.declared.refusal.Refusal.TheVariants.{NoPlace}
use Rattle.legends.specs.declared.call.Call.TheVariants.{Put, Turn, Draw}
use Rattle.legends.specs.Answers.{draw_answer}
use Rattle.legends.specs.Book.{is_accepted}
use Rattle.legends.specs.Lending.{lent_of}
use Rattle.legends.specs.Leaves.{State, state, after_put, after_turn}
use Rattle.legends.proofs.LentDraws.{draw_items}
use Rattle.legends.proofs.Lending.{same_state, Split, carried, same_if}
use Rattle.legends.proofs.histories.obey.Goals as goal

pub returns-in-Put-clause-lists : goal.returns-in-Put-clause-lists
returns-in-Put-clause-lists g c =
    let l = c.args.legend.now in
    let s = c.split_at_mut-signs in
    let m = c.split_at_mut-mapped in
    let p = c.split_at_mut-positions in
    let ss : Split c.min-end.result c.args.signs.now s.result.0.now s.result.1.now = record { front_is = s.ensures.front; back_is = s.ensures.back } in
    let ms : Split c.min-end.result c.args.mapped.now m.result.0.now m.result.1.now = record { front_is = m.ensures.front; back_is = m.ensures.back } in
    let ps : Split c.min-end.result c.args.positions.now p.result.0.now p.result.1.now = record { front_is = p.ensures.front; back_is = p.ensures.back } in
    let reached = c.min-end.ensures ∙ ap (min l.len) (c.lent.ensures ∙ ap lent_of c.in-Put.is) in
    let after = c.put.new.lists in
    let all = carried l c.requires.fit c.in-Put.lent c.min-end.result reached ss ms ps (Put c.in-Put.lent c.in-Put.place c.in-Put.row) c.put.result (cond (ltb c.in-Put.place l.len) (Ok tt) (Err NoPlace)) c.put.ensures.answer refl (after_put (g.F.Face.meaning c.args.face.now) c.in-Put.place c.in-Put.row) l after.signs.now after.mapped.now after.positions.now c.put.ensures.lists in
    rw c.in-Put.is (search (rules, all))

pub returns-in-Turn-clause-lists : goal.returns-in-Turn-clause-lists
returns-in-Turn-clause-lists g c =
    let l = c.args.legend.now in
    let s = c.split_at_mut-signs in
    let m = c.split_at_mut-mapped in
    let p = c.split_at_mut-positions in
    let ss : Split c.min-end.result c.args.signs.now s.result.0.now s.result.1.now = record { front_is = s.ensures.front; back_is = s.ensures.back } in
    let ms : Split c.min-end.result c.args.mapped.now m.result.0.now m.result.1.now = record { front_is = m.ensures.front; back_is = m.ensures.back } in
    let ps : Split c.min-end.result c.args.positions.now p.result.0.now p.result.1.now = record { front_is = p.ensures.front; back_is = p.ensures.back } in
    let reached = c.min-end.ensures ∙ ap (min l.len) (c.lent.ensures ∙ ap lent_of c.in-Turn.is) in
    let all = carried l c.requires.fit c.in-Turn.lent c.min-end.result reached ss ms ps (Turn c.in-Turn.lent c.in-Turn.settings) c.turn.result (Ok tt) c.turn.ensures.answer refl (after_turn (g.F.Face.meaning c.args.face.now) c.in-Turn.settings) c.turn.new.self s.result.0.now c.turn.new.mapped c.turn.new.positions c.turn.ensures.lists in
    rw c.in-Turn.is (search (rules, all))

pub returns-in-Draw-clause-lists : goal.returns-in-Draw-clause-lists
returns-in-Draw-clause-lists g c =
    let s = sym c.split_at_mut-signs.ensures.value in
    let m = sym c.split_at_mut-mapped.ensures.value in
    let p = sym c.split_at_mut-positions.ensures.value in
    rw c.in-Draw.is (same_state s m p ∙ same_if (is_accepted c.args.legend.now.len (Draw c.in-Draw.lent c.in-Draw.room)) _)

pub returns-in-Draw-clause-items : goal.returns-in-Draw-clause-items
returns-in-Draw-clause-items g c =
    let l = c.args.legend.now in
    let signs = c.args.signs.now in
    let mapped = c.args.mapped.now in
    let positions = c.args.positions.now in
    let items = c.args.items.now in
    let pens = c.args.pens.now in
    let k = c.min-end.result in
    let lent = c.in-Draw.lent in
    let room = c.in-Draw.room in
    let ki = c.min-items_end.result in
    let kp = c.min-pens_end.result in
    let reached : k ≡ min l.len lent = c.min-end.ensures ∙ ap (min l.len) (c.lent.ensures ∙ ap lent_of c.in-Draw.is) in
    let wide = c.requires.room in
    let r = c.draw.result in
    let cut : state l _ _ _ ≡ state l (take k signs) (take k mapped) (take k positions) =
    same_state c.split_at_mut-signs.ensures.front c.split_at_mut-mapped.ensures.front c.split_at_mut-positions.ensures.front in
    let lent_lists = state l c.split_at_mut-signs.result.0.now c.split_at_mut-mapped.result.0.now c.split_at_mut-positions.result.0.now in
    let i = c.split_at_mut-items in
    let p = c.split_at_mut-pens in
    let after = c.draw.new.room.items.now in
    let draws = λ (xs : List Item) (ps : List Pen) (st : State). draw_answer (length xs) (length ps) (bounded st.mapped st.positions) st in
    let leaves = λ (xs : List Item) (st : State). cond (is_ok r) (drawn_over l.settings st.mapped st.positions xs) xs in
    let answer = c.draw.ensures.answer
    ∙ ap (λ xs. draws xs p.result.0.now lent_lists) i.ensures.front
    ∙ ap (λ ps. draws (take ki items) ps lent_lists) p.ensures.front
    ∙ ap (draws (take ki items) (take kp pens)) cut in
    let made = c.draw.ensures.items
    ∙ ap (λ xs. leaves xs lent_lists) i.ensures.front
    ∙ ap (leaves (take ki items)) cut in
    let all = ap (λ (xs : List Item). after ++ xs) i.ensures.back ∙ draw_items l signs mapped positions c.requires.fit c.requires.bounded lent room k reached items pens ki kp c.min-items_end.ensures c.min-pens_end.ensures wide.0 wide.1 r answer after made in
    rw c.in-Draw.is (search (rules, all))
