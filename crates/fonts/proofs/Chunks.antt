-- Some bytes at a place, as the library takes them: the first ones of what is left there.
use Rattle.std.proofs.Common.{◌≡◌, Fits, w8, ℕ, zero, suc, ◌+◌, ◌%◌, ◌<◌, ◌≤◌, List, ◌∷◌, length, get_or, take, drop, Option, Some, None, Ok, sym, refl, ap, ◌∙◌, arith}
use Rattle.std.proofs.lemmas.Bool.{cond-true, cond-false, le-leb, lt-leb}
use Rattle.std.proofs.lemmas.List.{at_drop_more, length-drop}
use Rattle.std.proofs.Math.Nat.{mod-eq_of_lt}
use Rattle.std.specs.Option.{MatchOption, option_copied, ok_or}
use Rattle.std.specs.Array.{IsFirstChunk}
use denote.Ref.{Bor}
use Rattle.fonts.specs.Bytes.{bytes_at, field}

module _ (bs : List ℕ) (small : (k : ℕ) → Fits w8 (get_or bs k 0)) where
  taken : (n at : ℕ) → at + n ≤ length bs → take n (drop at bs) ≡ bytes_at bs at n
  taken zero at enough = refl
  taken (suc n) at enough =
      at_drop_more (λ xs. take (suc n) xs) bs at 0 (omega arith)
      ∙ ap (λ b. b ∷ take n (drop (at + 1) bs)) (sym (mod-eq_of_lt (omega (arith, small at))))
      ∙ ap (λ ys. get_or bs at 0 % 256 ∷ ys) (taken n (at + 1) (omega arith))

  pub chunk_field : (n at : ℕ) → at ≤ length bs → (rest : List ℕ) → rest ≡ drop at bs → (r : Option (Bor (List ℕ))) → MatchOption r (length rest < n) (λ y. IsFirstChunk rest y.now n)
      → ok_or (option_copied r) (record { place = at }) ≡ field bs at n (bytes_at bs at n)
  chunk_field n at within rest e None short =
      sym (cond-false _ _ _ (lt-leb (at + n) (length bs) (omega (arith, short, ap length e, length-drop at bs))))
  chunk_field n at within rest e (Some y) first =
      let enough : at + n ≤ length bs = omega (arith, first.enough, ap length e, length-drop at bs) in
      ap (λ ys. Ok ys) (first.same ∙ ap (take n) e ∙ taken n at enough) ∙ sym (cond-true _ _ _ (le-leb (at + n) (length bs) enough))
