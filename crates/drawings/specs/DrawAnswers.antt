-- What drawing a line answers, and what it leaves of the pens that it was lent.
use Rattle.std.specs.Prelude.{◌≡◌, ℕ, Bool, true, false, cond, not, ◌&&◌, List, length, Ok, Err, Result, nat_le}
use Rattle.signs.specs.declared.SignRow.{SignRow}
use Rattle.placement.specs.declared.Position.{Position}
use Rattle.placement.specs.Bounded.{bounded}
use Rattle.placement.specs.Steps.{fits}
use Rattle.drawings.specs.declared.pen.Pen.{Pen}
use Rattle.drawings.specs.declared.refusal.Refusal.{Refusal}
use Rattle.drawings.specs.declared.room.Room.{Room}
use Rattle.drawings.specs.declared.refusal.Refusal.TheVariants.{Length, NoRoom, OutOfBounds}

-- There is an item and a pen for each sign.
abbrev pub has_room : ℕ → ℕ → ℕ → Bool
has_room len items pens = nat_le len items && nat_le len pens

-- By the two lists of the line and by how many items and pens there are; of several refusals the one with the smallest
-- number.
abbrev pub draw_answer : List SignRow → List Position → ℕ → ℕ → Result (Unit {0}) Refusal
draw_answer rows positions items pens =
    cond (not (fits (length rows) (length rows) (length positions))) (Err Length)
    (cond (not (has_room (length rows) items pens)) (Err NoRoom)
    (cond (not (bounded rows positions)) (Err OutOfBounds)
    (Ok tt)))

-- A refused drawing leaves the pens as they were. After a drawing their contents are free: only their number is known.
abbrev pub PensAfter : Bool → List Pen → List Pen → Type 0
PensAfter true before after = length after ≡ length before
PensAfter false before after = after ≡ before

-- A drawing writes in the lists that it is lent, and lends no others in their place; made or refused, each stays as long as it was.
pub record SameRoom (before after : Room) : Type 0 where
  pub items : after.items.ghost_name ≡ before.items.ghost_name
  pub pens : after.pens.ghost_name ≡ before.pens.ghost_name
  pub as_many_items : length after.items.now ≡ length before.items.now
  pub as_many_pens : length after.pens.now ≡ length before.pens.now
