-- What each call leaves of a legend and its three lists: the signs put, the signs mapped, and their positions.
use Rattle.std.specs.Prelude.{◌≡◌, ℕ, Bool, cond, List, [], ◌∷◌, ◌++◌, take, drop, replicate, slice_set}
use Rattle.std.specs.List.{between}
use Rattle.signs.specs.declared.SignRow.{SignRow}
use Rattle.faces.specs.Meaning.{FaceMeaning}
use Rattle.placement.specs.declared.Position.{Position}
use Rattle.placement.specs.declared.Settings.{Settings}
use Rattle.placement.specs.Lines.{Cell, rows_of, positions_of}
use Rattle.placement.specs.Route.{route}
use Rattle.drawings.specs.declared.Item.{Item}
use Rattle.drawings.specs.Drawing.{drawn_over}
use Rattle.legends.specs.declared.legend.Legend.{Legend}
use Rattle.legends.specs.declared.call.Call.{Call}
use Rattle.legends.specs.declared.call.Call.TheVariants.{Put, Turn, Draw}
use Rattle.legends.specs.Book.{blank_sign, plain, is_accepted}
use Rattle.legends.specs.Span.{end_before, end_after}

-- A legend with its lists.
pub record State : Type 0 where
  pub legend : Legend
  pub signs : List SignRow
  pub mapped : List SignRow
  pub positions : List Position

abbrev pub state : Legend → List SignRow → List SignRow → List Position → State
state legend signs mapped positions = record { legend = legend; signs = signs; mapped = mapped; positions = positions }

-- The three lists alone.
abbrev pub ThreeLists : Type 0
ThreeLists = List SignRow × List SignRow × List Position

abbrev pub lists : List SignRow → List SignRow → List Position → ThreeLists
lists signs mapped positions = (signs, mapped, positions)

abbrev pub lists_of : State → ThreeLists
lists_of st = lists st.signs st.mapped st.positions

-- A call that is accepted leaves what it makes of the state; one that is refused leaves the state as it was.
abbrev pub left_if : Bool → (State → State) → State → State
left_if accepted change st = cond accepted (change st) st

-- What an accepted call leaves in a drawing: a draw the legend's items, any other call nothing new.
abbrev pub drawn_by : Call → State → List Item → List Item
drawn_by (Put lent place row) st items = items
drawn_by (Turn lent settings) st items = items
drawn_by (Draw lent room) st items = drawn_over st.legend.settings st.mapped st.positions items

module _ (f : FaceMeaning) where
  -- A legend of n signs with all of them gone their route.
  abbrev pub routed : ℕ → Settings → List SignRow → State
  routed n s signs = state (record { len = n; settings = s }) signs (rows_of (route f s signs)) (positions_of (route f s signs))

  -- The lists are in step with the signs put: the mapped signs and the positions are the route over all of them.
  abbrev pub InStep : State → Type 0
  InStep st = st ≡ routed st.legend.len st.legend.settings st.signs

  abbrev pub after_make : ℕ → State
  after_make n = routed n plain (replicate n blank_sign)

  abbrev pub after_turn : Settings → State → State
  after_turn s st = routed st.legend.len s st.signs

  -- The signs of the span of a place, with a sign put there, gone their route by themselves.
  abbrev pub respanned : Settings → List SignRow → ℕ → SignRow → List Cell
  respanned s signs place row = route f s (between (end_before signs place) (end_after signs place) (slice_set signs place row))

  -- A list whose part in the span of a place is another.
  abbrev pub around : {X : Type 0} → List SignRow → ℕ → List X → List X → List X
  around signs place xs part = take (end_before signs place) xs ++ (part ++ drop (end_after signs place) xs)

  abbrev pub after_put : ℕ → SignRow → State → State
  after_put place row st =
      state st.legend (slice_set st.signs place row)
      (around st.signs place st.mapped (rows_of (respanned st.legend.settings st.signs place row)))
      (around st.signs place st.positions (positions_of (respanned st.legend.settings st.signs place row)))

  -- A call on a legend whose lists fit. A draw changes neither the legend nor its lists.
  abbrev pub changed : Call → State → State
  changed (Put lent place row) st = after_put place row st
  changed (Turn lent settings) st = after_turn settings st
  changed (Draw lent room) st = st

  abbrev pub leaves : Call → State → State
  leaves c st = left_if (is_accepted st.legend.len c) (changed c) st

  abbrev pub leaves_all : List Call → State → State
  leaves_all [] st = st
  leaves_all (c ∷ calls) st = leaves_all calls (leaves c st)

  -- What a list of calls leaves, from making on.
  abbrev pub left_by : ℕ → List Call → State
  left_by n calls = leaves_all calls (after_make n)
