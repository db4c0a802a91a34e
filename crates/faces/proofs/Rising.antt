-- Strictly rising lists: the test in plain words, and what the only place of a key says of the first record of it.
use Rattle.std.proofs.Common.{◌≡◌, ℕ, zero, suc, ◌+◌, ◌<◌, ◌≤◌, true, false, ◌==◌, leb, List, [], ◌∷◌, length, get_or, slice_get, Option, Some, None, ⊎_elim, sym, refl, ap, ◌∙◌, subst, arith, eq-eqb, ne_eqb, leb-true}
use Rattle.std.specs.Bool.{then_some}
use Rattle.std.proofs.lemmas.Option.{slice_get_cases, slice_get_within, slice_get_past, slice_get-get_or, get_or_from_slice_get, none-some}
use Rattle.std.specs.Option.{option_copied}
use Rattle.std.specs.Slice.{IsItemAt}
use denote.Ref.{Bor}
use Rattle.std.proofs.lemmas.Bool.{cond-true, cond-false, and_parts, eqb-true, eqb-false}
use Rattle.faces.specs.Keys.{rising_from, rising, key_at, Rises, first}

-- what `get` and `copied` give is the element at the place, if there is one
pub copied_get : {X : Type 0} (xs : List X) (i : ℕ) (r : Option (Bor X)) → IsItemAt xs i r → option_copied r ≡ slice_get xs i
copied_get xs i None (_, _, _, past, _) = sym (slice_get_past xs i past)
copied_get xs i (Some x) (_, _, _, (less, here), _) = ap (λ y. Some y) (here x.now) ∙ sym (slice_get-get_or xs i x.now less)

module _ {X : Type 0} (key : X → ℕ) where
  from_low : (low : ℕ) (xs : List X) (i : ℕ) → i < length xs → rising_from key low xs ≡ true → low ≤ key_at key xs i
  from_low low [] i h r = absurd (omega arith)
  from_low low (x ∷ xs) zero h r = leb-true low (key x) (and_parts (leb low (key x)) (rising_from key (key x + 1) xs) r).0
  from_low low (x ∷ xs) (suc i) h r =
      let p = and_parts (leb low (key x)) (rising_from key (key x + 1) xs) r in
      omega (arith, leb-true low (key x) p.0, from_low (key x + 1) xs i (omega arith) p.1)

  rises_from : (low : ℕ) (xs : List X) → rising_from key low xs ≡ true → Rises key xs
  rises_from low [] r i j less h = absurd (omega arith)
  rises_from low (x ∷ xs) r i zero less h = absurd (omega arith)
  rises_from low (x ∷ xs) r zero (suc j) less h =
      let p = and_parts (leb low (key x)) (rising_from key (key x + 1) xs) r in
      omega (arith, from_low (key x + 1) xs j (omega arith) p.1)
  rises_from low (x ∷ xs) r (suc i) (suc j) less h =
      let p = and_parts (leb low (key x)) (rising_from key (key x + 1) xs) r in
      rises_from (key x + 1) xs p.1 i j (omega arith) (omega arith)

  pub rises : (xs : List X) → rising key xs ≡ true → Rises key xs
  rises xs r = rises_from 0 xs r

  pub key_read : (xs : List X) (i : ℕ) (x : X) → i < length xs → x ≡ get_or xs i x → key x ≡ key_at key xs i
  key_read [] i x h read = absurd (omega arith)
  key_read (y ∷ ys) zero x h read = ap key read
  key_read (y ∷ ys) (suc i) x h read = key_read ys i x (omega arith) read

  module _ (wanted : ℕ) where
    past : (y : X) (ys : List X) → (key y ≡ wanted → ⊥) → first key wanted (y ∷ ys) ≡ first key wanted ys
    past y ys ne = cond-false _ _ _ (ne_eqb (key y) wanted ne)

    pub first_only : (xs : List X) (i : ℕ) (x : X) → i < length xs → x ≡ get_or xs i x → key x ≡ wanted → ((k : ℕ) → k < length xs → key_at key xs k ≡ wanted → k ≡ i) → Some x ≡ first key wanted xs
    first_only [] i x h read e only = absurd (omega arith)
    first_only (y ∷ ys) zero x h read e only =
        ap (λ (z : X). Some z) read ∙ sym (cond-true _ _ _ (eq-eqb (key y) wanted (sym (ap key read) ∙ e)))
    first_only (y ∷ ys) (suc i) x h read e only =
        first_only ys i x (omega arith) read e (λ k l f. let s = only (suc k) (omega arith) f in omega (arith, s))
        ∙ sym (past y ys (λ f. let s = only 0 (omega arith) f in omega (arith, s)))

    pub first_none : (xs : List X) → ((k : ℕ) → k < length xs → key_at key xs k ≡ wanted → ⊥) → None ≡ first key wanted xs
    first_none [] none = refl
    first_none (y ∷ ys) none =
        first_none ys (λ k l f. none (suc k) (omega arith) f) ∙ sym (past y ys (λ f. none 0 (omega arith) f))

    -- what a look at the only place that can have the key says
    pub found_nowhere_else : (xs : List X) (i : ℕ) → ((k : ℕ) → k < length xs → key_at key xs k ≡ wanted → k ≡ i) → slice_get xs i ≡ None → None ≡ first key wanted xs
    found_nowhere_else xs i only missed =
        first_none xs (λ k less found.
        let s = only k less found in
        ⊎_elim (λ here. none-some here.0 (sym missed ∙ here.2)) (λ past. absurd (omega (arith, s, less, past.0))) (slice_get_cases xs i).1)

    pub found_there : (xs : List X) (i : ℕ) (x : X) → ((k : ℕ) → k < length xs → key_at key xs k ≡ wanted → k ≡ i) → slice_get xs i ≡ Some x → then_some (key x == wanted) x ≡ first key wanted xs
    found_there xs i x only there =
        let within = slice_get_within xs i x there in
        let read : x ≡ get_or xs i x = sym (get_or_from_slice_get xs i x x there) in
        elim (key x == wanted) as (λ b. (key x == wanted) ≡ b → then_some b x ≡ first key wanted xs) [
          | true ↦ λ e. first_only xs i x within read (eqb-true (key x) wanted e) only
          | false ↦ λ e. first_none xs (λ k less found.
              let s = only k less found in
              eqb-false (key x) wanted e (key_read xs i x within read ∙ subst (λ n. key_at key xs n ≡ wanted) s found))
        ] refl
