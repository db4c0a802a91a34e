-- A change of one element, by a function of lists that may be cut before each base and keeps the length.
use Rattle.std.proofs.Common.{◌≡◌, ℕ, zero, suc, ◌+◌, ◌-◌, ◌<◌, ◌≤◌, ◌⊎◌, List, [], ◌∷◌, ◌++◌, length, take, drop, set, sym, ap, ◌∙◌, inl, inr, arith}
use Rattle.std.specs.List.{between}
use Rattle.std.proofs.lemmas.List.{take-append-drop, drop-drop, take_at, drop_at, take-set-le, drop-set-lt, nil_from_length, length-take-le}
use Rattle.signs.specs.declared.SignRow.{SignRow}
use Rattle.placement.specs.ByGroups.{Begins}

module _ where
  -- a place where a list may be cut
  abbrev pub Cut : ℕ → List SignRow → Type 0
  Cut k xs = (k ≡ 0) ⊎ Begins (drop k xs)

  -- what stands above a cut does not matter to it
  pub begins_set : (k i : ℕ) (xs : List SignRow) (y : SignRow) → k < i → Begins (drop k xs) → Begins (drop k (set xs i y))
  begins_set k i [] y h b = b
  begins_set zero zero (x ∷ xs) y h b = absurd (omega arith)
  begins_set zero (suc i) (x ∷ xs) y h b = b
  begins_set (suc k) zero (x ∷ xs) y h b = absurd (omega arith)
  begins_set (suc k) (suc i) (x ∷ xs) y h b = begins_set k i xs y (omega arith) b

  module _ {B : Type 0} (P : List SignRow → List B)
      (local : (xs ys : List SignRow) → Begins ys → P (xs ++ ys) ≡ P xs ++ P ys)
      (long : (xs : List SignRow) → length (P xs) ≡ length xs) where
    pub cut_at : (k : ℕ) (xs : List SignRow) → Begins (drop k xs) → P xs ≡ P (take k xs) ++ P (drop k xs)
    cut_at k xs h = ap P (sym (take-append-drop k xs)) ∙ local (take k xs) (drop k xs) h

    cut_0 : (xs : List SignRow) → P xs ≡ P (take 0 xs) ++ P (drop 0 xs)
    cut_0 xs = let n = nil_from_length (P []) (long []) in ap (λ r. r ++ P xs) (sym n)

    pub cut_any : (k : ℕ) (xs : List SignRow) → Cut k xs → P xs ≡ P (take k xs) ++ P (drop k xs)
    cut_any k xs (inl e) = rw e (cut_0 xs)
    cut_any k xs (inr h) = cut_at k xs h

    front : (k : ℕ) (xs : List SignRow) → k ≤ length xs → Cut k xs → take k (P xs) ≡ P (take k xs)
    front k xs n h = ap (take k) (cut_any k xs h) ∙ take_at (P (take k xs)) (P (drop k xs)) k (long (take k xs) ∙ length-take-le k xs n)

    rest : (k : ℕ) (xs : List SignRow) → k ≤ length xs → Cut k xs → drop k (P xs) ≡ P (drop k xs)
    rest k xs n h = ap (drop k) (cut_any k xs h) ∙ drop_at (P (take k xs)) (P (drop k xs)) k (long (take k xs) ∙ length-take-le k xs n)

    -- after a change at i, only what lies between the cuts a and b is made anew
    pub relay : (xs : List SignRow) (i a b : ℕ) (y : SignRow) → a ≤ i → i < b → b ≤ length xs
        → (a ≡ 0) ⊎ ((a < i) × Begins (drop a xs)) → Begins (drop b xs)
        → P (set xs i y) ≡ take a (P xs) ++ (P (between a b (set xs i y)) ++ drop b (P xs))
    relay xs i a b y lo hi n ca cb =
        let new = set xs i y in
        let old-a : Cut a xs = elim ca [ inl e ↦ inl e | inr h ↦ inr h.1 ] in
        let new-a : Cut a new = elim ca [ inl e ↦ inl e | inr h ↦ inr (begins_set a i xs y h.0 h.1) ] in
        let t = take-set-le a xs i y lo in
        let d = drop-set-lt b xs i y hi in
        let s : a + (b - a) ≡ b = omega arith in
        let dd : drop (b - a) (drop a new) ≡ drop b xs = drop-drop (b - a) a new ∙ ap (λ k. drop k new) s ∙ d in
        let cb' : Begins (drop (b - a) (drop a new)) = rw dd cb in
        let one = cut_any a new new-a in
        let two = cut_at (b - a) (drop a new) cb' in
        let f = front a xs (omega arith) old-a in
        let r = rest b xs n (inr cb) in
        let ft = ap P t in
        let rt = ap P dd in
        cc
