-- Sums of a drawing: each fits its 32 bits, so it is the sum that it is meant to be.
use Rattle.std.proofs.Common.{◌≡◌, ℕ, zero, suc, ◌*◌, ◌<◌, ◌≤◌, Bool, true, false, List, length, ℤ, ◌+ℤ◌, arith, w32, to_z, of_z}
use Rattle.std.proofs.ByRecursion.{All-get_or}
use Rattle.std.proofs.lemmas.Int.{ints, to_z-of_z}
use Rattle.placement.specs.declared.Position.{Position}
use Rattle.placement.specs.Room.{Within, Light, AllLight}
use Rattle.drawings.specs.Pens.{place_at, nowhere, pen_after, Near}

-- a number as it is read again from its 32 bits
abbrev again : ℤ → ℤ
again z = to_z w32 (of_z w32 z)

pub sum : (a b : ℤ) → Within 16776960 a → Within 40000000 b → again (again a +ℤ again b) ≡ a +ℤ b
sum a b p q =
    let e = to_z-of_z w32 a (omega (arith, ints)) in
    let f = to_z-of_z w32 b (omega (arith, ints)) in
    let g = to_z-of_z w32 (a +ℤ b) (omega (arith, ints)) in
    cc

pub wider : (z : ℤ) → Within 65535 z → Within 40000000 z
wider z p = (omega (arith, ints), omega (arith, ints))

further : (k : ℕ) (x a : ℤ) → Within (65535 * k) x → Within 65535 a → Within (65535 * suc k) (x +ℤ a)
further k x a p q = (omega (arith, ints), omega (arith, ints))

pub place_within : (forward : Bool) (n k : ℕ) → k < n → place_at forward n k < n
place_within true n k h = h
place_within false n k h = omega arith

-- advances of up to 65535 units leave the pen near
module _ (forward : Bool) (ps : List Position) (light : AllLight ps) where
  pen_near : (k : ℕ) → k ≤ length ps → Near k (pen_after forward ps k)
  pen_near zero h = record { x = (omega (arith, ints), omega (arith, ints)); y = (omega (arith, ints), omega (arith, ints)) }
  pen_near (suc k) h =
      let n = pen_near k (omega arith) in
      let i = place_at forward (length ps) k in
      let l = All-get_or Light ps i nowhere (place_within forward (length ps) k (omega arith)) light in
      record { x = further k _ _ n.x l.x_advance; y = further k _ _ n.y l.y_advance }

  pub near_most : (k : ℕ) → k ≤ length ps → length ps ≤ 256 → Near 256 (pen_after forward ps k)
  near_most k h few =
      let n = pen_near k h in
      let a = n.x in
      let b = n.y in
      record { x = (omega (arith, ints), omega (arith, ints)); y = (omega (arith, ints), omega (arith, ints)) }
