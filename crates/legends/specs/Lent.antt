-- The lists that a caller lends, as they stand.
use Rattle.std.specs.Prelude.{◌≡◌, ℕ, Bool, length, Ok, Err, Result}
use Rattle.legends.specs.declared.legend.Legend.{Legend}
use Rattle.legends.specs.declared.lists.Lists.{Lists}
use Rattle.legends.specs.declared.lists.View.{View}
use Rattle.legends.specs.declared.refusal.Refusal.{Refusal}
use Rattle.legends.specs.Fits.{Fit, fit}
use Rattle.legends.specs.Leaves.{State, state, ThreeLists, lists}

-- With a legend, and alone.
abbrev pub state_of : Legend → Lists → State
state_of legend l = state legend l.signs.now l.mapped.now l.positions.now

abbrev pub state_seen : Legend → View → State
state_seen legend v = state legend v.signs.now v.mapped.now v.positions.now

abbrev pub three_lists : Lists → ThreeLists
three_lists l = lists l.signs.now l.mapped.now l.positions.now

-- Where a legend was made, it and its lists are a state.
abbrev pub Made : Result Legend Refusal → Lists → State → Type 0
Made (Ok legend) l st = state_of legend l ≡ st
Made (Err e) l st = Unit {0}

-- A call writes in the lists that it is lent, and lends no others in their place; accepted or refused, each stays as long as it was.
pub record SameLists (before after : Lists) : Type 0 where
  pub signs : after.signs.ghost_name ≡ before.signs.ghost_name
  pub mapped : after.mapped.ghost_name ≡ before.mapped.ghost_name
  pub positions : after.positions.ghost_name ≡ before.positions.ghost_name
  pub as_many_signs : length after.signs.now ≡ length before.signs.now
  pub as_many_mapped : length after.mapped.now ≡ length before.mapped.now
  pub as_many_positions : length after.positions.now ≡ length before.positions.now

-- Whether they fit a legend of n signs.
abbrev pub fits_lists : ℕ → Lists → Bool
fits_lists n l = fit n (length l.signs.now) (length l.mapped.now) (length l.positions.now)

abbrev pub FitsLists : ℕ → Lists → Type 0
FitsLists n l = Fit n (length l.signs.now) (length l.mapped.now) (length l.positions.now)
