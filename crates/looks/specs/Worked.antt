-- Worked looks at an em of 1000, whose gap is 62: a letter 600 wide from 0 to 700, a bar of 300 by 60 and a space.
use Rattle.std.specs.Prelude.{◌≡◌, ℕ, ◌+◌, ◌*◌, Bool, true, false, cond, [], ◌∷◌, ℤ, pos, neg_ℤ, Some, None, ◌==◌}
use Rattle.signs.specs.declared.SignRow.{SignRow}
use Rattle.signs.specs.Rows.{row_from}
use Rattle.faces.specs.Meaning.{FaceMeaning, edges}
use Rattle.placement.specs.declared.Direction.{Direction}
use Rattle.placement.specs.declared.Direction.TheVariants.{LeftToRight, RightToLeft, TopToBottom, BottomToTop}
use Rattle.placement.specs.declared.Settings.{Settings}
use Rattle.looks.specs.Runs.{same_run}
use Rattle.looks.specs.Steps.{gaps, heights}
use Rattle.looks.specs.Shares.{Sides, component_sides}
use Rattle.looks.specs.Drawing.{item, look}

-- glyph 1 is the letter, 2 the bar, 3 the space, which has no box
abbrev pub face : FaceMeaning
face = record {
  em = 1000;
  glyph = λ c. cond (c == 65) (Some 1) (cond (c == 769) (Some 2) (cond (c == 32) (Some 3) None));
  across = λ g. cond (g == 1) 600 (cond (g == 2) 310 (cond (g == 3) 500 0));
  down = λ g. neg_ℤ (pos 1000);
  bounds = λ g.
      cond (g == 1) (Some (edges (pos 20) (pos 0) (pos 580) (pos 700)))
      (cond (g == 2) (Some (edges (pos 0) (pos 0) (pos 300) (pos 60)))
      None);
}

abbrev pub adjusted : Bool → Direction → Settings
adjusted a d = record { direction = d; script = 0; adjust = a }

abbrev pub line : Direction → Settings
line d = adjusted false d

abbrev pub letter : SignRow
letter = row_from 65 5 0 0

-- a ligature of two components, with the id 1
abbrev pub pair : SignRow
pair = row_from 65 5 4 50

-- a space of a type
abbrev pub space : ℕ → SignRow
space t = row_from 32 (t * 256 + 29) 0 0

-- a bar of a class, and with the properties of a component
abbrev pub bar : ℕ → ℕ → SignRow
bar c l = row_from 769 (c * 256 + 12) 0 l

abbrev pub sides : ℤ → ℤ → Sides
sides l w = record { left = l; width = w }

pub record WorkedLooks : Type 0 where
  -- a class of a single script is placed by where it belongs
  pub classed : look face (line LeftToRight) (letter ∷ bar 22 0 ∷ []) ≡ item 0 1 (pos 0) (pos 0) ∷ item 1 2 (pos 150) (neg_ℤ (pos 122)) ∷ []
  -- what no sign may be is read as a space, so it is no mark
  pub not_read : look face (line LeftToRight) (letter ∷ bar 255 0 ∷ []) ≡ item 0 1 (pos 0) (pos 0) ∷ item 1 2 (pos 600) (pos 0) ∷ []
  -- backward, in the second group, with a mark of class 0 between
  pub backward : look face (line RightToLeft) (bar 230 0 ∷ letter ∷ letter ∷ bar 230 0 ∷ bar 0 0 ∷ bar 230 0 ∷ []) ≡ item 5 2 (pos 460) (pos 884) ∷ item 4 2 (pos 0) (pos 0) ∷ item 3 2 (pos 460) (pos 762) ∷ item 2 1 (pos 310) (pos 0) ∷ item 1 1 (pos 910) (pos 0) ∷ item 0 2 (pos 1510) (pos 0) ∷ []
  -- in vertical lines
  pub downward : look face (line TopToBottom) (letter ∷ bar 230 0 ∷ letter ∷ []) ≡ item 0 1 (pos 0) (pos 0) ∷ item 1 2 (pos 150) (pos 762) ∷ item 2 1 (pos 0) (neg_ℤ (pos 1000)) ∷ []
  pub upward : look face (line BottomToTop) (letter ∷ bar 230 0 ∷ letter ∷ []) ≡ item 2 1 (pos 0) (pos 0) ∷ item 1 2 (pos 150) (neg_ℤ (pos 238)) ∷ item 0 1 (pos 0) (neg_ℤ (pos 1000)) ∷ []
  -- double marks by the direction of the line
  pub double_forward : look face (line LeftToRight) (letter ∷ bar 234 0 ∷ []) ≡ item 0 1 (pos 0) (pos 0) ∷ item 1 2 (pos 450) (pos 762) ∷ []
  pub double_backward : look face (line RightToLeft) (letter ∷ bar 234 0 ∷ []) ≡ item 1 2 (neg_ℤ (pos 150)) (pos 762) ∷ item 0 1 (pos 0) (pos 0) ∷ []
  -- a space of type 4 is a quarter of the em
  pub quarter : look face (line LeftToRight) (space 4 ∷ letter ∷ []) ≡ item 0 3 (pos 0) (pos 0) ∷ item 1 1 (pos 250) (pos 0) ∷ []
  -- marks on a base without a box, left where they are or moved back
  pub bare : look face (adjusted false LeftToRight) (space 0 ∷ bar 230 0 ∷ letter ∷ []) ≡ item 0 3 (pos 0) (pos 0) ∷ item 1 2 (pos 500) (pos 0) ∷ item 2 1 (pos 500) (pos 0) ∷ []
  pub bare_back : look face (adjusted true LeftToRight) (space 0 ∷ bar 230 0 ∷ letter ∷ []) ≡ item 0 3 (pos 0) (pos 0) ∷ item 1 2 (pos 190) (pos 0) ∷ item 2 1 (pos 500) (pos 0) ∷ []
  -- on the components of a ligature: first, second, and one that names none after them
  pub ligature : look face (line LeftToRight) (pair ∷ bar 230 33 ∷ bar 230 34 ∷ bar 230 32 ∷ []) ≡ item 0 1 (pos 0) (pos 0) ∷ item 1 2 (pos 0) (pos 762) ∷ item 2 2 (pos 300) (pos 762) ∷ item 3 2 (neg_ℤ (pos 300)) (pos 762) ∷ []
  pub ligature_backward : look face (line RightToLeft) (pair ∷ bar 230 33 ∷ []) ≡ item 1 2 (pos 300) (pos 762) ∷ item 0 1 (pos 0) (pos 0) ∷ []
  pub none_named : look face (line LeftToRight) (pair ∷ bar 230 32 ∷ []) ≡ item 0 1 (pos 0) (pos 0) ∷ item 1 2 (pos 150) (pos 762) ∷ []
  -- of another ligature, so on the last component
  pub other_ligature : look face (line LeftToRight) (pair ∷ bar 230 65 ∷ []) ≡ item 0 1 (pos 0) (pos 0) ∷ item 1 2 (pos 300) (pos 762) ∷ []
  -- what must fit
  pub two_gaps : gaps face letter (bar 230 0 ∷ bar 0 0 ∷ []) (bar 230 0) ≡ 124
  pub one_height : heights face letter (bar 230 0 ∷ bar 0 0 ∷ []) (bar 230 0) ≡ pos 60
  pub broken : gaps face letter (bar 230 0 ∷ bar 220 0 ∷ []) (bar 230 0) ≡ 62
  pub attached : gaps face letter [] (bar 214 0) ≡ 0
  pub same_on_component : same_run pair (bar 230 33) (bar 0 0 ∷ []) (bar 230 33) ≡ true
  pub other_on_component : same_run pair (bar 230 33) [] (bar 230 34) ≡ false
  -- the sides of a component
  pub whole_base : component_sides face (line LeftToRight) pair [] (bar 230 32) ≡ sides (pos 0) (pos 600)
  pub own_box : component_sides face (line LeftToRight) pair (bar 230 33 ∷ []) (bar 230 32) ≡ sides (neg_ℤ (pos 300)) (pos 300)
  pub first_from_right : component_sides face (line RightToLeft) pair [] (bar 230 33) ≡ sides (pos 300) (pos 300)
