use Rattle.std.proofs.Common.{sym, ap, ◌∙◌, rules}
use Rattle.std.proofs.lemmas.Bool.{ne_eqb}
use Rattle.faces.specs.Boxes.{edges_of}
use Rattle.placement.specs.Placing.{placed}
use Rattle.placement.proofs.OneKeeps.{one_placed_lem, one_kept}
use Rattle.placement.proofs.one_mark.position_one_mark.Goals as goal

pub returns : goal.returns
returns g c =
    let f = g.F.Face.meaning c.args.face.now in
    let a = c.args in
    let run = c.in_ok-run.run' in
    let m = edges_of c.in_ok-mark.mark in
    let e = one_placed_lem f a.base a.mark a.class a.direction run m c.place.result
    (sym c.in_ok-run.ensures.value)
    (sym c.in_ok-mark.ensures)
    (ne_eqb _ _ c.if-class-eq0.false)
    (c.place.ensures ∙ ap (λ n. placed run m n a.class a.direction) (search rules)) in
    record { value = e; kept = one_kept f a.base a.mark a.class a.direction _ e }
