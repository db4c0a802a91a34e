use Rattle.std.proofs.Common.{◌≡◌, ◌-◌, length}
use Rattle.placement.proofs.ByParts.{Reached}
use Rattle.placement.proofs.layout.Layout.position_marks.Given as goal

abbrev pub invariant-loop-i : goal.invariant-loop-i
invariant-loop-i g l = (long : length l.initial.positions ≡ length l.rows) → Reached (g.F.Face.meaning l.self.face.now) l.self.settings l.rows l.initial.positions long l.i l.positions

abbrev pub decreases-loop-i : goal.decreases-loop-i
decreases-loop-i g l = l.n - l.i
