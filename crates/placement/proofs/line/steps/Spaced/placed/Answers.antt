use Rattle.std.proofs.Common.{sym, ◌∙◌}
use Rattle.placement.proofs.HeldLists.{held_lists}
use Rattle.placement.proofs.line.steps.Spaced.placed.Goals as goal

pub position_marks-requires-clause-glyphs : goal.position_marks-requires-clause-glyphs
position_marks-requires-clause-glyphs g c = (held_lists c.args.self c.args.self _ c.args.rows.now c.args.positions.now (sym c.bounded.ensures ∙ c.in_ok-line.was)).glyphs

pub position_marks-requires-clause-light : goal.position_marks-requires-clause-light
position_marks-requires-clause-light g c = (held_lists c.args.self c.args.self _ c.args.rows.now c.args.positions.now (sym c.bounded.ensures ∙ c.in_ok-line.was)).light
