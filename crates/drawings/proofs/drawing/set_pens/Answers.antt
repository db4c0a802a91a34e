use Rattle.std.proofs.Common.{length, sym, subst, arith}
use Rattle.std.proofs.ByRecursion.{All-get_or}
use Rattle.std.proofs.lemmas.List.{length-take-le}
use Rattle.placement.specs.Room.{Light}
use Rattle.drawings.specs.Pens.{nowhere, Near}
use Rattle.drawings.proofs.Sums.{near_most}
use Rattle.drawings.proofs.drawing.set_pens.Goals as goal

pub after-pen-requires : goal.after-pen-requires
after-pen-requires c =
    let ps = c.args.positions.now in
    let l = c.loop-k in
    let m = length-take-le (length ps) c.args.pens.now (omega arith) in
    (subst (Near 256) (sym l.invariant.0) (near_most c.args.forward ps c.requires.light l.k (omega arith) c.requires.few), All-get_or Light ps c.place_at.result nowhere c.place_at.ensures.within c.requires.light)
