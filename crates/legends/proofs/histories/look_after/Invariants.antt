use Rattle.std.proofs.Common.{take}
use Rattle.legends.proofs.SoFar.{SoFar}
use Rattle.legends.proofs.histories.look_after.Given as goal

abbrev pub invariant-loop-call : goal.invariant-loop-call
invariant-loop-call g l = SoFar (g.F.Face.meaning l.face) l.len (take l.call-index l.calls) l.legend l.initial.lists l.lists l.initial.room l.room
