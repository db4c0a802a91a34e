-- One turn of a search by halving: every place that has the key stays within the part that is left.
use Rattle.std.proofs.Common.{◌≡◌, ℕ, ◌+◌, ◌-◌, ◌*◌, ◌/◌, ◌<◌, ◌≤◌, cond, leb, List, length, sym, ap, subst, ⊎_elim, arith}
use Rattle.std.proofs.lemmas.Bool.{leb-true, leb-false, cases_lt, cases_order, cond_both}
use Rattle.faces.specs.Keys.{key_at, Rises}

module _ {X : Type 0} (key : X → ℕ) (wanted : ℕ) (xs : List X) where
  -- each place with the key is one of the size places from low on
  abbrev pub Within : ℕ → ℕ → Type 0
  Within low size = (low + size ≤ length xs) × ((k : ℕ) → k < length xs → key_at key xs k ≡ wanted → (low ≤ k) × (k < low + size))

  module _ (rises : Rises key xs) (low size : ℕ) (some : 1 < size) (within : Within low size) where
    upper : key_at key xs (low + size / 2) ≤ wanted → Within (low + size / 2 * 1) (size - size / 2)
    upper reached =
        let bound = within.0 in (
          omega arith,
          λ k less found.
              let w = within.1 k less found in
              ⊎_elim
              (λ h. absurd (omega (arith, rises k (low + size / 2) h (omega arith))))
              (λ h. (omega arith, omega arith))
              (cases_lt k (low + size / 2)),
        )

    lower : wanted < key_at key xs (low + size / 2) → Within (low + size / 2 * 0) (size - size / 2)
    lower passed =
        let bound = within.0 in (
          omega arith,
          λ k less found.
              let w = within.1 k less found in
              ⊎_elim
              (λ e. absurd (omega (arith, ap (key_at key xs) e)))
              (⊎_elim (λ h. (omega arith, omega arith)) (λ h. absurd (omega (arith, rises (low + size / 2) k h less))))
              (cases_order k (low + size / 2)),
        )

    pub halved : (k r : ℕ) → k ≡ key_at key xs (low + size / 2) → r ≡ cond (leb k wanted) 1 0 → Within (low + size / 2 * r) (size - size / 2)
    halved k r read e =
        let P : ℕ → Type 0 = λ n. Within (low + size / 2 * n) (size - size / 2) in
        subst P (sym e) (cond_both _ 1 0 P (λ h. let t = leb-true k wanted h in upper (omega arith)) (λ h. let t = leb-false k wanted h in lower (omega arith)))
