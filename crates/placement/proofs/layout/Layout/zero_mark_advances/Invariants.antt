use Rattle.std.proofs.Common.{◌≡◌, drop}
use Rattle.placement.specs.Placements.{zeroed}
use Rattle.placement.specs.Room.{AllLight}
use Rattle.placement.proofs.EachCell.{written}
use Rattle.placement.proofs.layout.Layout.zero_mark_advances.Given as goal

abbrev pub invariant-loop-i : goal.invariant-loop-i
invariant-loop-i g l = (written (zeroed l.self.settings.adjust) l.rows l.positions l.i ≡ written (zeroed l.self.settings.adjust) l.rows l.initial.positions 0) × AllLight (drop l.i l.positions)
