use Rattle.std.proofs.Common.{◌+◌, ◌/◌, sym, ap, ◌∙◌, arith}
use Rattle.faces.proofs.Rising.{rises, key_read}
use Rattle.faces.proofs.Halving.{halved}
use Rattle.faces.proofs.keyed.rising.Rising.place_of.Goals as goal

pub loop-size-preserved : goal.loop-size-preserved
loop-size-preserved g c =
    let key = g.T.Keyed.key_of in
    let rows = c.args.self.now.rows.now in
    let l = c.loop-size in
    halved key c.args.wanted rows (rises key rows c.args.self.now.rises) l.low l.size c.loop-size-test.true l.invariant c.key.result c.reaches.result
    (c.key.ensures ∙ ap key (sym c.index-self-low.is) ∙ key_read key rows (l.low + l.size / 2) _ (omega arith) c.index-self-low.is) c.reaches.ensures
