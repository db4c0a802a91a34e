use Rattle.std.proofs.Common.{sym, ap, ◌∙◌, subst}
use Rattle.signs.specs.Rows.{read_row, class}
use Rattle.placement.specs.Bases.{as_base}
use Rattle.placement.specs.Room.{Near}
use Rattle.placement.specs.Walks.{Base}
use Rattle.placement.proofs.NearFrom.{from_near, to_near}
use Rattle.placement.proofs.Nears.{near_entered}
use Rattle.placement.proofs.Stepping.{entered_is}
use Rattle.placement.proofs.layout.Layout.step.Goals as goal

pub settle-requires-clause-near : goal.settle-requires-clause-near
settle-requires-clause-near g c =
    let a = c.args in
    let f = g.F.Face.meaning a.self.now.face.now in
    let b : Base = as_base a.base in
    let r = read_row a.row in
    let em = c.read-mark.ensures in
    let ev = entered_is f a.self.now.settings b a.walk r a.position em (c.class-class.ensures ∙ ap class em) c.to_component.ensures c.to_run-entered.ensures in
    subst (Near 256) (sym ev) (to_near 256 _ (near_entered a.self.now.settings b c.args.base.spans 256 r a.walk (from_near 256 a.walk c.requires.near)))
