-- How far the two rules on a mark's height move it.
use Rattle.std.proofs.Common.{◌≡◌, ℕ, ℤ, pos, ◌+ℤ◌, neg_ℤ, ◌≤ℤ◌, sym, ap, ◌∙◌, subst, arith}
use lib.Signed.{lt_z}
use Rattle.std.proofs.lemmas.Int.{ints}
use Rattle.std.proofs.lemmas.Bool.{cond_both}
use Rattle.placement.specs.Room.{Within}
use Rattle.placement.specs.Placing.{half, unlifted, half_sunk}
use Rattle.placement.proofs.Computed.{again, again_is}

module _ (y : ℤ) where
  pub unlifted_low : unlifted y ≤ℤ y
  unlifted_low = cond_both _ (pos 0) y (λ u. u ≤ℤ y) (λ h. omega (arith, ints)) (λ h. omega (arith, ints))

  pub unlifted_down : unlifted y ≤ℤ pos 0
  unlifted_down = cond_both (lt_z (pos 0) y) (pos 0) y (λ u. u ≤ℤ pos 0) (λ h. omega (arith, ints)) (λ h. omega (arith, ints))

  pub unlifted_within : (n : ℕ) → Within n y → Within n (unlifted y)
  unlifted_within n w = cond_both (lt_z (pos 0) y) (pos 0) y (Within n) (λ h. (omega (arith, ints), omega (arith, ints))) (λ h. w)

  pub half_sunk_high : y ≤ℤ half_sunk y
  half_sunk_high = cond_both (lt_z (pos 0) y) y (y +ℤ half (neg_ℤ y)) (λ u. y ≤ℤ u) (λ h. omega (arith, ints)) (λ h. omega (arith, ints))

  pub half_sunk_within : (n : ℕ) → Within n y → Within n (half_sunk y)
  half_sunk_within n w =
      cond_both (lt_z (pos 0) y) y (y +ℤ half (neg_ℤ y)) (Within n) (λ h. w) (λ h. (omega (arith, ints), omega (arith, ints)))

-- a rule on a height that keeps it within bounds, called at a sum that is y
pub called : (rule : ℤ → ℤ) → ((y : ℤ) (n : ℕ) → Within n y → Within n (rule y)) → {r : ℤ} (x y : ℤ) → r ≡ rule x → x ≡ y → Within 60033792 y → (again r ≡ rule y) × Within 60033792 (again r)
called rule keeps {r} x y e sum w =
    let v = keeps y 60033792 w in
    let same : again r ≡ rule y = again_is (e ∙ ap rule sum) (omega (arith, ints)) in
    (same, subst (Within 60033792) (sym same) v)
