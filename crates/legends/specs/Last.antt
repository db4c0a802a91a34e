-- What was last reported: the last accepted put at each place, and the last accepted turn.
use Rattle.std.specs.Prelude.{◌≡◌, ℕ, ◌<◌, cond, List, [], ◌∷◌, Some, None, Option, ◌==◌}
use Rattle.signs.specs.declared.SignRow.{SignRow}
use Rattle.placement.specs.declared.Settings.{Settings}
use Rattle.legends.specs.declared.call.Call.{Call}
use Rattle.legends.specs.declared.call.Call.TheVariants.{Put, Turn, Draw}
use Rattle.legends.specs.Book.{is_accepted}

-- What a call puts at a place, and how it turns the line.
abbrev pub put_at : ℕ → Call → Option SignRow
put_at place (Put lent at row) = cond (at == place) (Some row) None
put_at place (Turn lent settings) = None
put_at place (Draw lent room) = None

abbrev pub turn_to : Call → Option Settings
turn_to (Put lent at row) = None
turn_to (Turn lent settings) = Some settings
turn_to (Draw lent room) = None

-- The later of two reports, where there is one.
abbrev pub later : {X : Type 0} → Option X → Option X → Option X
later first (Some x) = Some x
later first None = first

-- The last report of the accepted calls on a legend of n signs.
abbrev pub last : {X : Type 0} → (Call → Option X) → ℕ → List Call → Option X
last report n [] = None
last report n (c ∷ calls) = later (cond (is_accepted n c) (report c) None) (last report n calls)

abbrev pub last_put : ℕ → ℕ → List Call → Option SignRow
last_put n place calls = last (put_at place) n calls

abbrev pub last_turn : ℕ → List Call → Option Settings
last_turn n calls = last turn_to n calls

-- Two lists of calls with the same last put at each place of the legend, and the same last turn.
pub record Alike (n : ℕ) (calls others : List Call) : Type 0 where
  pub puts : (place : ℕ) → place < n → last_put n place calls ≡ last_put n place others
  pub turns : last_turn n calls ≡ last_turn n others
