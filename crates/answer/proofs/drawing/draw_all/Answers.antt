use Rattle.std.proofs.Common.{[], ◌∷◌, ◌++◌, vec_items, ap, ◌∙◌}
use Rattle.answer.specs.declared.pen.Item.{Item}
use Rattle.answer.proofs.BySign.{items_more, pen_more}
use Rattle.answer.proofs.drawing.draw_all.Goals as goal

pub loop-k-preserved : goal.loop-k-preserved
loop-k-preserved c =
    let rows = c.args.rows.now in
    let ps = c.args.positions.now in
    let l = c.loop-k in
    let place = c.place_at-place.ensures.value in (
      c.in_ok-push.ensures.items ∙ ap (λ (x : Item). vec_items l.items ++ x ∷ []) c.item.ensures ∙ items_more c.args.forward rows ps l.k _ l.pen _ l.invariant.0 l.invariant.1 place,
      c.after-pen.ensures.value ∙ pen_more c.args.forward rows ps l.k _ l.pen l.invariant.1 place,
      c.after-pen.ensures.near l.k l.invariant.2,
    )
