use Rattle.std.proofs.Common.{◌≡◌, ◌<◌, ◌++◌, length, get_or, take, drop, sym, ap, ◌∙◌, subst, append-nil, arith}
use Rattle.std.proofs.ByRecursion.{All-get_or}
use Rattle.std.proofs.lemmas.List.{take_all, drop_all, length-take-le}
use Rattle.placement.specs.Room.{Light}
use Rattle.drawings.specs.Drawing.{drawn_in, side}
use Rattle.drawings.specs.Pens.{item_at, no_row, nowhere, pen_after, Near}
use Rattle.drawings.proofs.Sums.{near_most}
use Rattle.drawings.proofs.Turns.{into_more, drawing_length, turn_drawn}
use Rattle.drawings.proofs.drawing.draw_items.Goals as goal

pub item-requires : goal.item-requires
item-requires c =
    let ps = c.args.positions.now in
    let k = c.loop-k.k in
    let m = length-take-le (length ps) c.args.items.now (omega arith) in
    (subst (Near 256) (sym (c.requires.pens k (omega arith))) (near_most c.args.forward ps c.requires.light k (omega arith) c.requires.few), All-get_or Light ps c.place_at-place.result nowhere c.place_at-place.ensures.within c.requires.light)

pub loop-k-preserved : goal.loop-k-preserved
loop-k-preserved c =
    let forward = c.args.forward in
    let rows = c.args.rows.now in
    let ps = c.args.positions.now in
    let k = c.loop-k.k in
    let goal = drawn_in forward (side rows ps) in
    let l = drawing_length forward rows ps c.requires.long in
    let m = length-take-le (length ps) c.args.items.now (omega arith) in
    let h : k < length ps = omega arith in
    let here = c.place_at-place.result in
    let is : c.item.result ≡ get_or goal k c.item.result =
    c.item.ensures
    ∙ ap (λ q. item_at q here (get_or rows here no_row) (get_or ps here nowhere)) (c.requires.pens k h)
    ∙ ap (λ q. item_at (pen_after forward ps k) q (get_or rows q no_row) (get_or ps q nowhere)) c.place_at-place.ensures.value
    ∙ sym (turn_drawn forward rows ps c.requires.long k c.item.result h) in
    into_more goal (take (length ps) c.args.items.now) c.loop-k.drawn-items k c.item.result (omega arith) (omega arith) c.loop-k.invariant is

pub returns : goal.returns
returns c =
    let rows = c.args.rows.now in
    let ps = c.args.positions.now in
    let items = c.args.items.now in
    let goal = drawn_in c.args.forward (side rows ps) in
    let part = take (length ps) items in
    let l = drawing_length c.args.forward rows ps c.requires.long in
    let m = length-take-le (length ps) items (omega arith) in
    let t = take_all c.loop-k.k goal (omega arith) in
    let d = drop_all c.loop-k.k part (omega arith) in
    let z : c.loop-k.drawn-items ≡ goal = c.loop-k.invariant ∙ ap (λ q. q ++ drop c.loop-k.k part) t ∙ ap (λ q. goal ++ q) d ∙ append-nil goal in
    ap (λ q. q ++ drop (length ps) items) z ∙ ap (λ q. goal ++ drop q items) c.requires.long
