-- Products and quotients of widths stay within bounds.
use Rattle.std.proofs.Common.{◌≡◌, ℕ, suc, ◌*◌, ◌/◌, ◌≤◌, Bool, true, false, ℤ, pos, negsuc, ◌*ℤ◌, neg_ℤ, mul-le-mul, div-le_self, arith, sym, subst, w32, SFits, to_z}
use lib.Signed.{quot_z}
use Rattle.std.proofs.lemmas.Int.{ints, to_z_pos}
use Rattle.signs.specs.declared.SignRow.{SignRow}
use Rattle.signs.specs.Rows.{lig_num_comps}
use Rattle.placement.specs.Room.{Within}
use Rattle.placement.specs.Components.{leftward}
use Rattle.placement.proofs.Belonging.{components_few}
use Rattle.placement.proofs.Computed.{again, again_same}

within_pos : (n a : ℕ) → a ≤ n → Within n (pos a)
within_pos n a h = (omega (arith, ints), omega (arith, ints))

within_neg : (n a : ℕ) → a ≤ n → Within n (neg_ℤ (pos a))
within_neg n a h = (omega (arith, ints), omega (arith, ints))

pub mul_within : (a b : ℕ) (k w : ℤ) → Within a k → Within b w → Within (a * b) (k *ℤ w)
mul_within a b (pos i) (pos j) h g =
    let p : i ≤ a = omega (arith, ints) in
    let q : j ≤ b = omega (arith, ints) in
    within_pos (a * b) (i * j) (mul-le-mul p q)
mul_within a b (negsuc i) (pos j) h g =
    let p : suc i ≤ a = omega (arith, ints) in
    let q : j ≤ b = omega (arith, ints) in
    within_neg (a * b) (suc i * j) (mul-le-mul p q)
mul_within a b (pos i) (negsuc j) h g =
    let p : i ≤ a = omega (arith, ints) in
    let q : suc j ≤ b = omega (arith, ints) in
    within_neg (a * b) (i * suc j) (mul-le-mul p q)
mul_within a b (negsuc i) (negsuc j) h g =
    let p : suc i ≤ a = omega (arith, ints) in
    let q : suc j ≤ b = omega (arith, ints) in
    within_pos (a * b) (suc i * suc j) (mul-le-mul p q)

pub quot_within : (n : ℕ) (z : ℤ) (d : ℕ) → Within n z → Within n (quot_z z (pos d))
quot_within n (pos a) d h =
    let p : a ≤ n = omega (arith, ints) in
    within_pos n (a / d) (omega (arith, div-le_self a d))
quot_within n (negsuc a) d h =
    let p : suc a ≤ n = omega (arith, ints) in
    within_neg n (suc a / d) (omega (arith, div-le_self (suc a) d))

pub leftward_within : (ltr : Bool) (n k : ℕ) → n ≤ 15 → k ≤ 15 → Within 15 (leftward ltr n k)
leftward_within true n k h g = (omega (arith, ints), omega (arith, ints))
leftward_within false n k h g = (omega (arith, ints), omega (arith, ints))

-- a share of a width, as the code computes it
module _ (k w : ℤ) (n : ℕ) (hk : Within 15 k) (hw : Within 65535 w) (hn : n ≤ 15) where
  within_product : Within 983025 (k *ℤ w)
  within_product = mul_within 15 65535 k w hk hw

  ek : again k ≡ k
  ek = again_same k (omega (arith, ints))

  ew : again w ≡ w
  ew = again_same w (omega (arith, ints))

  em : again (k *ℤ w) ≡ k *ℤ w
  em = let p = within_product in again_same (k *ℤ w) (omega (arith, ints))

  en : to_z w32 n ≡ pos n
  en = to_z_pos w32 n (omega arith)

  pub product_fits : SFits w32 (again k *ℤ again w)
  product_fits = let p = within_product in let f : SFits w32 (k *ℤ w) = omega (arith, ints) in simp (ek, ew) f

  pub quotient_fits : SFits w32 (quot_z (again (again k *ℤ again w)) (to_z w32 n))
  quotient_fits =
      let q = quot_within 983025 (k *ℤ w) n within_product in
      let f : SFits w32 (quot_z (k *ℤ w) (pos n)) = omega (arith, ints) in
      simp (ek, ew, em, en) f

  pub left_share : again (quot_z (again (again k *ℤ again w)) (to_z w32 n)) ≡ quot_z (k *ℤ w) (pos n)
  left_share =
      let q = quot_within 983025 (k *ℤ w) n within_product in
      let e = again_same (quot_z (k *ℤ w) (pos n)) (omega (arith, ints)) in
      simp (ek, ew, em, en) e

  pub width_share : again (quot_z (again w) (to_z w32 n)) ≡ quot_z w (pos n)
  width_share =
      let q = quot_within 65535 w n hw in
      let e = again_same (quot_z w (pos n)) (omega (arith, ints)) in
      simp (ew, en) e

-- how many components a base has, and how many of them lie to the left of one
pub before_within : (ltr : Bool) (r : SignRow) (n k : ℕ) (z : ℤ) → n ≡ lig_num_comps r → k ≤ 15 → z ≡ leftward ltr n k → (n ≤ 15) × Within 15 z
before_within ltr r n k z e g q = let few : n ≤ 15 = omega (arith, e, components_few r) in (few, subst (Within 15) (sym q) (leftward_within ltr n k few g))
