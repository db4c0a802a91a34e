-- How far a walk has gone, along a base that spans any number of units up and down.
use Rattle.std.proofs.Common.{ℕ, ◌+◌, ◌*◌}
use Rattle.placement.specs.declared.walk.Walk.{Walk}
use Rattle.placement.specs.Room.{Within, Spans, Near}

pub record NearFrom (start n : ℕ) (w : Walk) : Type 0 where
  pub x : Within (65535 + 65535 * n) w.x
  pub y : Within (65535 + 65535 * n) w.y
  pub around : Spans start w.around
  pub run : Spans (start + 66560 * n) w.run

-- Along a base of any offset that a line may hold, that is what the steps of a walk ask for.
pub from_near : (n : ℕ) (w : Walk) → Near n w → NearFrom 40032768 n w
from_near n w a = record { x = a.x; y = a.y; around = a.around; run = a.run }

pub to_near : (n : ℕ) (w : Walk) → NearFrom 40032768 n w → Near n w
to_near n w a = record { x = a.x; y = a.y; around = a.around; run = a.run }
