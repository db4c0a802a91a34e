-- The book of a legend: what was last reported of each sign, and how the line is set. It is made from the calls alone: what
-- the lists hold, and what a face answers, does not come into it.
use Rattle.std.specs.Prelude.{ℕ, Bool, false, cond, ◌&&◌, List, [], ◌∷◌, replicate, nat_le, nat_lt, slice_set}
use Rattle.signs.specs.declared.SignRow.{SignRow}
use Rattle.placement.specs.declared.Settings.{Settings}
use Rattle.placement.specs.declared.Direction.TheVariants.{LeftToRight}
use Rattle.legends.specs.declared.call.Call.{Call}
use Rattle.legends.specs.declared.call.Call.TheVariants.{Put, Turn, Draw}

pub record Book : Type 0 where
  pub signs : List SignRow
  pub settings : Settings

-- Making writes a space at every place, and sets the line from left to right, with no script, adjusting nothing.
abbrev pub blank_sign : SignRow
blank_sign = record { code = 32; unicode_props = 4637; glyph_props = 0; lig_props = 0 }

abbrev pub plain : Settings
plain = record { direction = LeftToRight; script = 0; adjust = false }

abbrev pub blank_book : ℕ → Book
blank_book n = record { signs = replicate n blank_sign; settings = plain }

-- A call on a legend of n signs is accepted where it is lent all of each list, where a put is for a place of the legend, and
-- where a draw has room for every sign.
abbrev pub is_accepted : ℕ → Call → Bool
is_accepted n (Put lent place row) = nat_le n lent && nat_lt place n
is_accepted n (Turn lent settings) = nat_le n lent
is_accepted n (Draw lent room) = nat_le n lent && nat_le n room

-- An accepted put writes its sign at its place, an accepted turn its settings. A draw or a refused call writes nothing.
abbrev pub written : Call → Book → Book
written (Put lent place row) b = record { signs = slice_set b.signs place row; settings = b.settings }
written (Turn lent settings) b = record { signs = b.signs; settings = settings }
written (Draw lent room) b = b

abbrev pub writes : ℕ → Call → Book → Book
writes n c b = cond (is_accepted n c) (written c b) b

-- The calls, one after another.
abbrev pub writes_all : ℕ → List Call → Book → Book
writes_all n [] b = b
writes_all n (c ∷ calls) b = writes_all n calls (writes n c b)

abbrev pub book_after : ℕ → List Call → Book
book_after n calls = writes_all n calls (blank_book n)
