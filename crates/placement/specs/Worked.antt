-- Worked placements at an em of 1000, whose gap is 62: a letter 600 wide from 0 to 700, and bars of 300 by 60.
use Rattle.std.specs.Prelude.{◌≡◌, cond, ℤ, pos, neg_ℤ, Some, None, Option, ◌==◌}
use Rattle.faces.specs.Meaning.{FaceMeaning, Edges, edges}
use Rattle.placement.specs.declared.direction.Direction.TheVariants.{LeftToRight, RightToLeft, TopToBottom, BottomToTop}
use Rattle.placement.specs.declared.extents.Extents.{Extents}
use Rattle.placement.specs.declared.extents.PlacedMark.{PlacedMark}
use Rattle.placement.specs.Placing.{half, placed}
use Rattle.placement.specs.OneMark.{one_placed}

abbrev pub bar : Edges
bar = edges (pos 0) (pos 0) (pos 300) (pos 60)

-- glyph 1 is the letter, 2 the bar; 3 is drawn far above its origin and 4 far below; 5 has no box
abbrev pub face : FaceMeaning
face = record {
  em = 1000;
  glyph = λ c. None;
  across = λ g. cond (g == 1) 600 0;
  down = λ g. pos 0;
  bounds = λ g.
      cond (g == 1) (Some (edges (pos 0) (pos 0) (pos 600) (pos 700)))
      (cond (g == 2) (Some bar)
      (cond (g == 3) (Some (edges (pos 0) (pos 900) (pos 300) (pos 960)))
      (cond (g == 4) (Some (edges (pos 0) (neg_ℤ (pos 360)) (pos 300) (neg_ℤ (pos 300))))
      None)));
}

-- a mark at x, y, after which the run reaches from bottom to top
abbrev pub at : ℤ → ℤ → ℤ → ℤ → Option PlacedMark
at x y bottom top = Some (record { x = x; y = y; run = record { left = pos 0; width = pos 600; bottom = bottom; top = top } })

abbrev pub locked_once : Extents
locked_once = record { left = pos 0; width = pos 600; bottom = pos 0; top = pos 822 }

pub record Worked : Type 0 where
  pub closed : one_placed face 1 2 220 LeftToRight ≡ at (pos 150) (neg_ℤ (pos 122)) (neg_ℤ (pos 122)) (pos 700)
  pub locked : one_placed face 1 2 230 LeftToRight ≡ at (pos 150) (pos 762) (pos 0) (pos 822)
  pub locked_twice : (placed locked_once bar 62 230 LeftToRight).y ≡ pos 884
  -- a mark that would sink by 138 sinks by 69; one that would rise stays
  pub sinking : one_placed face 1 3 230 LeftToRight ≡ at (pos 150) (neg_ℤ (pos 69)) (pos 0) (pos 891)
  pub rising : one_placed face 1 4 220 LeftToRight ≡ at (pos 150) (pos 0) (neg_ℤ (pos 360)) (pos 700)
  -- attached marks have no gap
  pub attached_below : one_placed face 1 2 202 LeftToRight ≡ at (pos 150) (neg_ℤ (pos 60)) (neg_ℤ (pos 60)) (pos 700)
  pub attached_above : one_placed face 1 2 214 LeftToRight ≡ at (pos 150) (pos 700) (pos 0) (pos 760)
  -- at the left, at the right, and double marks by the direction of the line
  pub below_left : one_placed face 1 2 218 LeftToRight ≡ at (pos 0) (neg_ℤ (pos 122)) (neg_ℤ (pos 122)) (pos 700)
  pub above_right : one_placed face 1 2 232 LeftToRight ≡ at (pos 300) (pos 762) (pos 0) (pos 822)
  pub double_forward : one_placed face 1 2 234 LeftToRight ≡ at (pos 450) (pos 762) (pos 0) (pos 822)
  pub double_backward : one_placed face 1 2 234 RightToLeft ≡ at (neg_ℤ (pos 150)) (pos 762) (pos 0) (pos 822)
  pub double_down : one_placed face 1 2 233 TopToBottom ≡ at (pos 150) (neg_ℤ (pos 122)) (neg_ℤ (pos 122)) (pos 700)
  pub double_up : one_placed face 1 2 233 BottomToTop ≡ at (pos 150) (neg_ℤ (pos 122)) (neg_ℤ (pos 122)) (pos 700)
  -- any other class is centred and keeps its height; class 0 is not placed, and nothing without a box is
  pub other : one_placed face 1 2 224 LeftToRight ≡ at (pos 150) (pos 0) (pos 0) (pos 700)
  pub zero : one_placed face 1 2 0 LeftToRight ≡ None
  pub bare_mark : one_placed face 1 5 230 LeftToRight ≡ None
  pub bare_base : one_placed face 5 2 230 LeftToRight ≡ None
  pub toward_zero : half (neg_ℤ (pos 5)) ≡ neg_ℤ (pos 2)
