use Rattle.std.proofs.Common.{◌≡◌, ℕ, ◌+◌, ◌<◌, ◌≤◌, length}
use Rattle.faces.specs.Keys.{key_at}
use Rattle.faces.proofs.keyed.rising.Rising.place_of.Given as goal

-- a place that has the key lies in the part that is left
abbrev pub invariant-loop-size : goal.invariant-loop-size
invariant-loop-size g l =
    (l.low + l.size ≤ length l.self.rows.now)
    × ((k : ℕ) → k < length l.self.rows.now → key_at g.T.Keyed.key_of l.self.rows.now k ≡ l.wanted → (l.low ≤ k) × (k < l.low + l.size))

abbrev pub decreases-loop-size : goal.decreases-loop-size
decreases-loop-size g l = l.size
