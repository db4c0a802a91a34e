-- The worked signs of the panel, all at an em of 1000: where bars are drawn, and what classes, spaces and scripts become.
use Rattle.std.specs.Prelude.{◌≡◌, true, false, [], ◌∷◌, pos, neg_ℤ, Some, None}
use Rattle.signs.specs.Classes.{recategorized}
use Rattle.faces.specs.Meaning.{edges}
use Rattle.placement.specs.declared.Direction.TheVariants.{LeftToRight, RightToLeft}
use Rattle.placement.specs.Lines.{at}
use Rattle.placement.specs.Placing.{placed}
use Rattle.placement.specs.Scripts.{from_script}
use Rattle.placement.specs.Spaces.{own_advance, halved_along}
use Rattle.looks.specs.Drawing.{item, look}
use Rattle.looks.specs.Worked.{face, line, letter, bar}

pub record WorkedSigns : Type 0 where
  -- a bar beneath, a bar over, and a second bar over that one
  pub closed : look face (line LeftToRight) (letter ∷ bar 220 0 ∷ []) ≡ item 0 1 (pos 0) (pos 0) ∷ item 1 2 (pos 150) (neg_ℤ (pos 122)) ∷ []
  pub locked : look face (line LeftToRight) (letter ∷ bar 230 0 ∷ []) ≡ item 0 1 (pos 0) (pos 0) ∷ item 1 2 (pos 150) (pos 762) ∷ []
  pub locked_twice : look face (line LeftToRight) (letter ∷ bar 230 0 ∷ bar 230 0 ∷ []) ≡ item 0 1 (pos 0) (pos 0) ∷ item 1 2 (pos 150) (pos 762) ∷ item 2 2 (pos 150) (pos 884) ∷ []
  -- a mark above that would sink sinks half of the way, one below that would rise stays
  pub sinking : (placed (record { left = pos 0; width = pos 600; bottom = pos 0; top = pos 700 }) (edges (pos 0) (pos 900) (pos 300) (pos 960)) 62 230 LeftToRight).y ≡ neg_ℤ (pos 69)
  pub rising : (placed (record { left = pos 0; width = pos 600; bottom = pos 0; top = pos 700 }) (edges (pos 0) (neg_ℤ (pos 360)) (pos 300) (neg_ℤ (pos 300))) 62 220 LeftToRight).y ≡ pos 0
  -- classes
  pub sheva : recategorized 0 22 ≡ 220
  pub mai_han_akat : recategorized 0x0E31 0 ≡ 232
  pub phinthu : recategorized 0x0E3A 9 ≡ 222
  pub phinthu_placed : recategorized 0x0E3A 200 ≡ 200
  pub dagesh : recategorized 0 12 ≡ 12
  -- spaces: a third and a sixteenth of the em, four eighteenths, and half of -5
  pub third : own_advance face true 3 ≡ Some (pos 333)
  pub sixteenth : own_advance face true 16 ≡ Some (pos 63)
  pub four_eighteenths : own_advance face true 17 ≡ Some (pos 222)
  pub third_down : own_advance face false 3 ≡ Some (neg_ℤ (pos 333))
  pub halved : halved_along true (at (neg_ℤ (pos 5)) (pos 0) (pos 0) (pos 0)) ≡ at (neg_ℤ (pos 2)) (pos 0) (pos 0) (pos 0)
  -- scripts: Arab, Gara, Latn and Ital; letters in another case are another script
  pub arabic : from_script 0x41726162 ≡ Some RightToLeft
  pub garay : from_script 0x47617261 ≡ Some RightToLeft
  pub latin : from_script 0x4C61746E ≡ Some LeftToRight
  pub old_italic : from_script 0x4974616C ≡ None
  pub other_case : from_script 0x61726162 ≡ Some LeftToRight
