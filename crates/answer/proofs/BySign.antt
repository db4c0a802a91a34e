-- A line is drawn sign by sign.
use Rattle.std.proofs.Common.{◌≡◌, ℕ, ◌+◌, Bool, List, [], ◌∷◌, ◌++◌, length, get_or, refl, add-one}
use Rattle.placement.specs.declared.Position.{Position}
use Rattle.signs.specs.declared.SignRow.{SignRow}
use Rattle.answer.specs.declared.pen.Item.{Item}
use Rattle.answer.specs.declared.pen.Pen.{Pen}
use Rattle.answer.specs.Pens.{item_at, moved}
use Rattle.answer.specs.Drawn.{items_of, no_row, nowhere, pen_after, place_at}

-- the pen and the items after one sign more
pub pen_more : (forward : Bool) (rows : List SignRow) (ps : List Position) (k i : ℕ) (p : Pen) → p ≡ pen_after forward rows ps k → i ≡ place_at forward (length rows) k → moved p (get_or ps i nowhere) ≡ pen_after forward rows ps (k + 1)
pen_more forward rows ps k i p hp hi = rw (add-one, hp, hi) refl

pub items_more : (forward : Bool) (rows : List SignRow) (ps : List Position) (k i : ℕ) (p : Pen) (xs : List Item) → xs ≡ items_of forward rows ps k → p ≡ pen_after forward rows ps k → i ≡ place_at forward (length rows) k → xs ++ item_at p i (get_or rows i no_row) (get_or ps i nowhere) ∷ [] ≡ items_of forward rows ps (k + 1)
items_more forward rows ps k i p xs hx hp hi = rw (add-one, hx, hp, hi) refl
