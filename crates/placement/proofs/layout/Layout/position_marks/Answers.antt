use Rattle.std.proofs.Common.{◌-◌, ◌≤◌, sym, ◌∙◌, subst, zero-add, arith}
use Rattle.std.proofs.ByRecursion.{All-take, All-drop}
use Rattle.signs.specs.declared.SignRow.{SignRow}
use Rattle.placement.specs.Marks.{marks}
use Rattle.placement.specs.Room.{Light, AllLight}
use Rattle.placement.proofs.ByParts.{reached_first, reached_more, reached_all}
use Rattle.placement.proofs.layout.Layout.position_marks.Goals as goal

abbrev IsGlyph : SignRow → Type 0
IsGlyph r = r.code ≤ 65535

pub loop-i-init : goal.loop-i-init
loop-i-init g c =
    λ long. reached_first (g.F.Face.meaning c.args.self.now.face.now) c.args.self.now.settings c.args.rows.now c.args.positions.now long c.base_after-i.result
    (c.base_after-i.ensures.value ∙ zero-add (marks c.args.rows.now)) c.base_after-i.ensures.ends.1

pub position_around_base-requires-clause-light : goal.position_around_base-requires-clause-light
position_around_base-requires-clause-light g c =
    let i = c.loop-i.i in
    All-take Light (c.base_after-j.result - i) _ (subst AllLight (sym (c.loop-i.invariant c.requires.long).rest) (All-drop Light i _ c.requires.light))

pub loop-i-preserved : goal.loop-i-preserved
loop-i-preserved g c =
    λ long. reached_more (g.F.Face.meaning c.args.self.now.face.now) c.args.self.now.settings c.args.rows.now c.args.positions.now long c.loop-i.i c.base_after-j.result c.loop-i.positions _
    c.loop-i-test.true c.base_after-j.ensures.value c.base_after-j.ensures.ends.1 (omega arith) (c.loop-i.invariant long) c.position_around_base.ensures

pub returns : goal.returns
returns g c =
    reached_all (g.F.Face.meaning c.args.self.now.face.now) c.args.self.now.settings c.args.rows.now c.args.positions.now c.requires.long c.loop-i.i c.loop-i.positions
    c.loop-i-test.false (omega arith) (c.loop-i.invariant c.requires.long)
