-- What one placed mark keeps.
use Rattle.std.proofs.Common.{◌≡◌, ℕ, pos, ◌+ℤ◌, ◌-ℤ◌, ◌≤ℤ◌, Some, Option, sym, refl, subst, arith}
use Rattle.std.proofs.lemmas.Int.{ints}
use Rattle.faces.specs.Meaning.{Edges}
use Rattle.placement.specs.declared.classes.Way.{Way}
use Rattle.placement.specs.declared.classes.Way.TheVariants.{Above, Below}
use Rattle.placement.specs.declared.classes.Align.{Align}
use Rattle.placement.specs.declared.classes.Align.TheVariants.{Centred}
use Rattle.placement.specs.declared.extents.Extents.{Extents}
use Rattle.placement.specs.Classes.{way, align}
use Rattle.placement.specs.Placing.{gap_before, placed_by}
use Rattle.placement.specs.Kept.{lies, distance, last_edge, far_edge, from_left, from_right, Even, PlacedMarksKeep}
use Rattle.placement.proofs.Heights.{unlifted_low, unlifted_down, half_sunk_high}

module _ (run : Extents) (m : Edges) (g : ℕ) (a : Align) where
  clear : (w : Way) → pos g ≤ℤ distance w run (lies (placed_by run m g (Some w) a) m)
  clear Above = omega (arith, ints, half_sunk_high (run.top +ℤ pos g -ℤ m.bottom))
  clear Below = omega (arith, ints, unlifted_low (run.bottom -ℤ pos g -ℤ m.top))

  goes_on : (w : Way) → last_edge w (placed_by run m g (Some w) a).run ≡ far_edge w (lies (placed_by run m g (Some w) a) m)
  goes_on Above = refl
  goes_on Below = refl

centred : (run : Extents) (m : Edges) (g : ℕ) (w : Option Way) → Even (from_left run (lies (placed_by run m g w Centred) m)) (from_right run (lies (placed_by run m g w Centred) m))
centred run m g w = (omega (arith, ints), omega (arith, ints))

pub placed_marks_keep : PlacedMarksKeep
placed_marks_keep run m gap c d =
    let g : ℕ = gap_before gap c in
    let a : Align = align c d in
    record {
      clear = λ w e. subst (λ o. pos g ≤ℤ distance w run (lies (placed_by run m g o a) m)) (sym e) (clear run m g a w);
      goes_on = λ w e. subst (λ o. last_edge w (placed_by run m g o a).run ≡ far_edge w (lies (placed_by run m g o a) m)) (sym e) (goes_on run m g a w);
      unlifted = λ e. subst (λ o. (placed_by run m g o a).y ≤ℤ pos 0) (sym e) (unlifted_down (run.bottom -ℤ pos g -ℤ m.top));
      centred = λ e. subst (λ b. Even (from_left run (lies (placed_by run m g (way c) b) m)) (from_right run (lies (placed_by run m g (way c) b) m))) (sym e) (centred run m g (way c));
    }
