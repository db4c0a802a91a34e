-- Worked books and spans: a letter, a bar over it, another beneath it, and a second letter.
use Rattle.std.specs.Prelude.{◌≡◌, ℕ, true, List, [], ◌∷◌, Some, None, Ok, Err}
use Rattle.signs.specs.declared.SignRow.{SignRow}
use Rattle.placement.specs.declared.Settings.{Settings}
use Rattle.placement.specs.declared.Direction.TheVariants.{BottomToTop}
use Rattle.legends.specs.declared.call.Call.{Call}
use Rattle.legends.specs.declared.call.Call.TheVariants.{Put, Turn, Draw}
use Rattle.legends.specs.declared.refusal.Refusal.TheVariants.{Length, NoPlace, NoRoom}
use Rattle.legends.specs.Book.{Book, blank_sign, plain, book_after}
use Rattle.legends.specs.Last.{last_put, last_turn}
use Rattle.legends.specs.Span.{span_of}
use Rattle.legends.specs.Answers.{answer_to}

abbrev pub letter : ℕ → SignRow
letter code = record { code = code; unicode_props = 9; glyph_props = 0; lig_props = 0 }

-- Nonspacing marks of class 230 and of class 220.
abbrev pub over : SignRow
over = record { code = 0x305; unicode_props = 58892; glyph_props = 0; lig_props = 0 }

abbrev pub beneath : SignRow
beneath = record { code = 0x332; unicode_props = 56332; glyph_props = 0; lig_props = 0 }

abbrev pub upward : Settings
upward = record { direction = BottomToTop; script = 0; adjust = true }

-- One gate is reported locked, then closed. A put past the last place, one that is lent too little, a turn that is lent too
-- little and a draw write nothing.
abbrev pub reports : List Call
reports = Put 2 0 (letter 0x41) ∷ Put 2 1 over ∷ Draw 2 2 ∷ Put 2 2 (letter 0x42) ∷ Put 2 1 beneath ∷ Put 1 0 over ∷ Turn 2 upward ∷ Turn 1 plain ∷ []

-- The same, with nothing in between.
abbrev pub in_short : List Call
in_short = Turn 2 upward ∷ Put 2 1 beneath ∷ Put 2 0 (letter 0x41) ∷ []

abbrev pub book : List SignRow → Settings → Book
book signs settings = record { signs = signs; settings = settings }

-- Two letters, each with two bars.
abbrev pub two : List SignRow
two = letter 0x41 ∷ over ∷ beneath ∷ letter 0x42 ∷ over ∷ beneath ∷ []

pub record WorkedLegends : Type 0 where
  pub made : book_after 2 [] ≡ book (blank_sign ∷ blank_sign ∷ []) plain
  pub closed : book_after 2 reports ≡ book (letter 0x41 ∷ beneath ∷ []) upward
  pub short : book_after 2 in_short ≡ book (letter 0x41 ∷ beneath ∷ []) upward
  pub last_bar : last_put 2 1 reports ≡ Some beneath
  pub last_letter : last_put 2 0 reports ≡ Some (letter 0x41)
  pub last_turned : last_turn 2 reports ≡ Some upward
  pub never_put : last_put 2 0 (Put 1 0 over ∷ Put 2 5 over ∷ Draw 2 2 ∷ []) ≡ None
  pub never_turned : last_turn 2 (Turn 1 upward ∷ []) ≡ None
  -- refusals, the smallest number first
  pub too_little : answer_to 2 (Put 1 2 over) ≡ Err Length
  pub no_place : answer_to 2 (Put 2 2 over) ≡ Err NoPlace
  pub no_room : answer_to 2 (Draw 2 1) ≡ Err NoRoom
  pub accepted : answer_to 2 (Put 2 1 over) ≡ Ok tt
  pub empty : answer_to 0 (Draw 0 0) ≡ Ok tt
  -- spans: of a mark its group; of a base its group and the one before, whose marks may come to be its own
  pub of_first : span_of two 0 ≡ (0, 3)
  pub of_mark : span_of two 2 ≡ (0, 3)
  pub of_second : span_of two 3 ≡ (0, 6)
  pub of_last : span_of two 5 ≡ (3, 6)
  pub of_alone : span_of (over ∷ over ∷ []) 1 ≡ (0, 2)
