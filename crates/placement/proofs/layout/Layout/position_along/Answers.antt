use Rattle.std.proofs.Common.{◌+◌, get_or, sym, subst, arith}
use Rattle.signs.specs.Rows.{read_row}
use Rattle.placement.specs.Bases.{as_base}
use Rattle.placement.specs.Lines.{cell}
use Rattle.placement.specs.Room.{Light, Near}
use Rattle.placement.specs.Walks.{Base, Known}
use Rattle.placement.proofs.Blank.{blank, nowhere}
use Rattle.placement.proofs.NearFrom.{from_near, to_near}
use Rattle.placement.proofs.Nears.{near_wider}
use Rattle.placement.proofs.LeftOver.{left_here, left_after}
use Rattle.placement.proofs.Along.{near_next, known_next, gone_more, gone_all}
use Rattle.placement.proofs.layout.Layout.position_along.Goals as goal

pub step-next-requires-clause-near : goal.step-next-requires-clause-near
step-next-requires-clause-near g c =
    let l = c.loop-i in
    let few = c.requires.few in
    to_near 256 l.walk (near_wider l.i 256 l.walk (omega arith) (from_near l.i l.walk l.invariant.1.0))

pub loop-i-preserved : goal.loop-i-preserved
loop-i-preserved g c =
    let a = c.args in
    let f = g.F.Face.meaning a.self.now.face.now in
    let keeps = g.F.Face.keeps a.self.now.face.now in
    let b : Base = as_base a.base in
    let l = c.loop-i in
    let e = c.step-next.ensures in
    let here = cell (read_row (get_or a.rows.now l.i blank)) (get_or l.positions l.i nowhere) in
    let light = left_here Light l.positions l.i (omega arith) l.invariant.1.1.1 nowhere in (
      gone_more f keeps a.self.now.settings b c.args.base.spans l.walk _ a.rows.now l.positions _ l.i _ _ _ c.loop-i-test.true (omega arith) e.walk e.position l.invariant.0,
      (
        subst (Near _) (sym e.walk) (to_near (l.i + 1) _ (near_next f keeps a.self.now.settings b c.args.base.spans l.i l.walk here (from_near l.i l.walk l.invariant.1.0) light)),
        (
          subst (Known b) (sym e.walk) (known_next f keeps a.self.now.settings b c.args.base.spans l.walk here l.invariant.1.1.0),
          left_after Light l.positions l.i (omega arith) l.invariant.1.1.1 _,
        ),
      ),
    )

pub returns : goal.returns
returns g c =
    let a = c.args in
    let f = g.F.Face.meaning a.self.now.face.now in
    let b : Base = as_base a.base in
    let l = c.loop-i in
    gone_all f (g.F.Face.keeps a.self.now.face.now) a.self.now.settings b c.args.base.spans a.start l.walk a.rows.now l.positions a.positions.now l.i c.loop-i-test.false c.requires.long l.invariant.0
