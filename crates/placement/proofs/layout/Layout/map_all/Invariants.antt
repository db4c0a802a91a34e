use Rattle.std.proofs.Common.{◌≡◌, ◌++◌, map, take, drop}
use Rattle.placement.specs.Directions.{is_horizontal}
use Rattle.placement.specs.Mapped.{map_row, map_position}
use Rattle.placement.proofs.layout.Layout.map_all.Given as goal

-- the rows and positions before i are mapped, the others are as they were
abbrev pub invariant-loop-i : goal.invariant-loop-i
invariant-loop-i g l =
    (l.rows ≡ map (map_row (g.F.Face.meaning l.self.face.now)) (take l.i l.initial.rows) ++ drop l.i l.initial.rows)
    × (l.positions ≡ map (map_position (g.F.Face.meaning l.self.face.now) (is_horizontal l.self.settings.direction)) (take l.i l.initial.rows) ++ drop l.i l.initial.positions)
