-- The laws of records in order.
use Rattle.std.proofs.Common.{◌≡◌, ℕ, suc, ◌+◌, ◌<◌, ◌≤◌, Bool, true, false, nat_lt, List, [], ◌∷◌, ◌++◌, length, get_or, Some, sym, refl, ◌∙◌, subst, ⊎_elim, arith, length-append}
use Rattle.std.proofs.lemmas.List.{get_or_default}
use lib.Seq.{get_or-append_seam}
use Rattle.std.proofs.lemmas.Bool.{and_from, le-leb, ltb-true, ltb-false, cases_order}
use Rattle.std.specs.List.{AllAdjacentBelow, IsAllAdjacentAnswer}
use Rattle.faces.specs.Keys.{rising_from, rising, key_at, Rises, first}
use Rattle.faces.specs.KeyLaws.{KeyLaws}
use Rattle.faces.proofs.Rising.{rises, key_read, first_only, first_none}

module _ {X : Type 0} (key : X → ℕ) where
  passes_from : (low : ℕ) (xs : List X) → ((i : ℕ) → i < length xs → low ≤ key_at key xs i) → Rises key xs → rising_from key low xs ≡ true
  passes_from low [] least r = refl
  passes_from low (x ∷ xs) least r =
      and_from _ _ (le-leb low (key x) (least 0 (omega arith)))
      (passes_from (key x + 1) xs (λ i h. omega (arith, r 0 (suc i) (omega arith) (omega arith))) (λ i j l h. r (suc i) (suc j) (omega arith) (omega arith)))

  -- neighbours that rise
  from_neighbours : (x : X) (xs : List X) → AllAdjacentBelow (λ a b. true ≡ nat_lt (key a) (key b)) (x ∷ xs) (length (x ∷ xs)) → rising_from key (key x + 1) xs ≡ true
  from_neighbours x [] h = refl
  from_neighbours x (y ∷ ys) h =
      and_from _ _ (le-leb (key x + 1) (key y) (omega (arith, ltb-true (key x) (key y) (sym (h 0 x (omega arith))))))
      (from_neighbours y ys (λ k d l.
      let e : suc k + 1 ≡ suc (k + 1) = omega arith in
      subst (λ n. true ≡ nat_lt (key (get_or (y ∷ ys) k d)) (key (get_or (x ∷ y ∷ ys) n d))) e (h (suc k) d (omega arith))))

  -- what `is_sorted_by` answers where it compares keys
  pub rising_answer : (xs : List X) (r : Bool) → IsAllAdjacentAnswer (λ a b t. t ≡ nat_lt (key a) (key b)) xs r → r ≡ rising key xs
  rising_answer [] true h = refl
  rising_answer (x ∷ xs) true h = sym (and_from _ _ (le-leb 0 (key x) (omega arith)) (from_neighbours x xs h))
  rising_answer [] false (k, less, out) = absurd (omega arith)
  rising_answer (x ∷ xs) false (k, less, out) =
      elim (rising key (x ∷ xs)) as (λ b. (rising key (x ∷ xs) ≡ b) → false ≡ b) [
        | true ↦ λ r.
            let at : (i : ℕ) → i < length (x ∷ xs) → key (get_or (x ∷ xs) i x) ≡ key_at key (x ∷ xs) i = λ i h. key_read key (x ∷ xs) i (get_or (x ∷ xs) i x) h (get_or_default (x ∷ xs) i _ _ h) in
            absurd (omega (arith, rises key (x ∷ xs) r k (k + 1) (omega arith) less, at k (omega arith), at (k + 1) less, ltb-false _ _ (sym (out x))))
        | false ↦ λ r. refl
      ] refl

  -- in a rising list a key stands at one place only
  one_place : (xs : List X) → Rises key xs → (i k : ℕ) → i < length xs → k < length xs → key_at key xs k ≡ key_at key xs i → k ≡ i
  one_place xs r i k hi hk e =
      ⊎_elim (λ s. s) (⊎_elim (λ l. absurd (omega (arith, r k i l hi))) (λ l. absurd (omega (arith, r i k l hk)))) (cases_order k i)

  own : (before : List X) (x : X) (after : List X) → rising key (before ++ x ∷ after) ≡ true → first key (key x) (before ++ x ∷ after) ≡ Some x
  own before x after r =
      let xs : List X = before ++ x ∷ after in
      let here : length before < length xs = omega (arith, length-append before (x ∷ after)) in
      let read : x ≡ get_or xs (length before) x = sym (get_or-append_seam before x after x) in
      sym (first_only key (key x) xs (length before) x here read refl
      (λ k h e. one_place xs (rises key xs r) (length before) k here h (e ∙ key_read key xs (length before) x here read)))

  pub key_laws : KeyLaws key
  key_laws = record {
    rises = rises key;
    passes = λ xs r. passes_from 0 xs (λ i h. omega arith) r;
    own = own;
    none = λ k xs none. sym (first_none key k xs none);
  }
