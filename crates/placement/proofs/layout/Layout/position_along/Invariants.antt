use Rattle.std.proofs.Common.{◌≡◌, drop}
use Rattle.placement.specs.Bases.{as_base}
use Rattle.placement.specs.Room.{AllLight, Near}
use Rattle.placement.specs.Walks.{Known, next, out}
use Rattle.placement.proofs.Scans.{going}
use Rattle.placement.proofs.layout.Layout.position_along.Given as goal

-- what is written and the walk along the rest make the whole walk; what is left is within bounds
abbrev pub invariant-loop-i : goal.invariant-loop-i
invariant-loop-i g l =
    (going (next (g.F.Face.meaning l.self.face.now) l.self.settings (as_base l.base)) (out (g.F.Face.meaning l.self.face.now) l.self.settings (as_base l.base)) l.walk l.rows l.positions l.i
    ≡ going (next (g.F.Face.meaning l.self.face.now) l.self.settings (as_base l.base)) (out (g.F.Face.meaning l.self.face.now) l.self.settings (as_base l.base)) l.initial.walk l.rows l.initial.positions 0)
    × (Near l.i l.walk × (Known (as_base l.base) l.walk × AllLight (drop l.i l.positions)))
