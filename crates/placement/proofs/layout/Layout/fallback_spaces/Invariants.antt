use Rattle.std.proofs.Common.{◌≡◌}
use Rattle.placement.specs.Directions.{is_horizontal}
use Rattle.placement.specs.Spaces.{spaced_along}
use Rattle.placement.proofs.EachCell.{written}
use Rattle.placement.proofs.layout.Layout.fallback_spaces.Given as goal

abbrev pub invariant-loop-i : goal.invariant-loop-i
invariant-loop-i g l =
    written (spaced_along (g.F.Face.meaning l.self.face.now) (is_horizontal l.self.settings.direction)) l.rows l.positions l.i
    ≡ written (spaced_along (g.F.Face.meaning l.self.face.now) (is_horizontal l.self.settings.direction)) l.rows l.initial.positions 0
