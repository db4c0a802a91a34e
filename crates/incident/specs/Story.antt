-- The story of one gate: the calls up to each look, and what is seen after them.
use Rattle.std.specs.Prelude.{◌≡◌, false, List, [], ◌∷◌, length}
use Rattle.signs.specs.declared.SignRow.{SignRow}
use Rattle.faces.specs.Meaning.{FaceMeaning}
use Rattle.placement.specs.declared.Settings.{Settings}
use Rattle.placement.specs.declared.Direction.TheVariants.{RightToLeft}
use Rattle.drawings.specs.declared.Item.{Item}
use Rattle.legends.specs.declared.Call.{Call}
use Rattle.legends.specs.declared.Call.TheVariants.{Put, Turn}
use Rattle.legends.specs.Promise.{Look}
use Rattle.incident.specs.declared.story.Story.{Story}

abbrev pub letter_sign : SignRow
letter_sign = record { code = 0x41; unicode_props = 9; glyph_props = 0; lig_props = 0 }

-- A nonspacing mark of class 230, above, and one of class 220, below.
abbrev pub bar_over : SignRow
bar_over = record { code = 0x305; unicode_props = 58892; glyph_props = 0; lig_props = 0 }

abbrev pub bar_beneath : SignRow
bar_beneath = record { code = 0x332; unicode_props = 56332; glyph_props = 0; lig_props = 0 }

abbrev pub leftward : Settings
leftward = record { direction = RightToLeft; script = 0; adjust = false }

-- The calls before each look.
abbrev pub put_letter : List Call
put_letter = Put 2 0 letter_sign ∷ []

abbrev pub then_locked : List Call
then_locked = Put 2 0 letter_sign ∷ Put 2 1 bar_over ∷ []

abbrev pub then_closed : List Call
then_closed = Put 2 0 letter_sign ∷ Put 2 1 bar_over ∷ Put 2 1 bar_beneath ∷ []

abbrev pub then_turned : List Call
then_turned = Put 2 0 letter_sign ∷ Put 2 1 bar_over ∷ Put 2 1 bar_beneath ∷ Turn 2 leftward ∷ []

-- What is seen of two signs after some calls: two items, which keep the whole promise of a look.
pub record Seen (f : FaceMeaning) (calls : List Call) (items : List Item) : Type 0 where
  pub two : length items ≡ 2
  pub look : Look f 2 calls items

pub record Told (f : FaceMeaning) (s : Story) : Type 0 where
  pub blank : Seen f [] s.blank
  pub letter : Seen f put_letter s.letter
  pub locked : Seen f then_locked s.locked
  pub closed : Seen f then_closed s.closed
  pub turned : Seen f then_turned s.turned
