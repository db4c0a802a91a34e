-- At each step of a sum a signed number goes to its 32 bits and is read again. These follow a sum of the code, step by step.
use Rattle.std.proofs.Common.{◌≡◌, ℤ, pos, ◌+ℤ◌, ◌-ℤ◌, refl, ap, ◌∙◌, arith, w32, SFits, to_z, of_z}
use lib.Signed.{quot_z}
use Rattle.std.proofs.lemmas.Int.{ints, to_z-of_z}

-- a number as it is read again
abbrev pub again : ℤ → ℤ
again z = to_z w32 (of_z w32 z)

pub again_is : {x z : ℤ} → x ≡ z → SFits w32 z → again x ≡ z
again_is {x} {z} e f = ap again e ∙ to_z-of_z w32 z f

pub again_same : (z : ℤ) → SFits w32 z → again z ≡ z
again_same z f = again_is refl f

pub again_add : {x y a b : ℤ} → x ≡ a → y ≡ b → SFits w32 (a +ℤ b) → again (x +ℤ y) ≡ a +ℤ b
again_add {x} {y} {a} {b} e g f = again_is {x = x +ℤ y} (cc) f

pub again_sub : {x y a b : ℤ} → x ≡ a → y ≡ b → SFits w32 (a -ℤ b) → again (x -ℤ y) ≡ a -ℤ b
again_sub {x} {y} {a} {b} e g f = again_is {x = x -ℤ y} (cc) f

pub again_half : {x a : ℤ} → x ≡ a → SFits w32 a → again (quot_z x (pos 2)) ≡ quot_z a (pos 2)
again_half {x} {a} e f = again_is (ap (λ z. quot_z z (pos 2)) e) (omega (arith, ints))

pub again_both : {A : Type 0} (f : ℤ → ℤ → A) (a b : ℤ) → SFits w32 a → SFits w32 b → f (again a) (again b) ≡ f a b
again_both f a b p q = ap (λ x. f x (again b)) (again_same a p) ∙ ap (f a) (again_same b q)

-- what a call that was given such numbers answered, as it is read again
pub again_called : (f : ℤ → ℤ → ℤ) {r : ℤ} (a b : ℤ) → r ≡ f (again a) (again b) → SFits w32 r → SFits w32 a → SFits w32 b → again r ≡ f a b
again_called f {r} a b e q fa fb = again_same r q ∙ e ∙ again_both f a b fa fb
