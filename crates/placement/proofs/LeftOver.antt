-- What holds of the elements that a loop has yet to come to.
use Rattle.std.proofs.Common.{ℕ, ◌+◌, ◌<◌, List, ◌∷◌, length, get_or, drop, set, sym, subst, arith}
use Rattle.std.proofs.lemmas.List.{drop-set-lt, drop_more}
use Rattle.std.specs.List.{AllByRecursion}

module _ {X : Type 0} (Q : X → Type 0) (xs : List X) (i : ℕ) (h : i < length xs) (a : AllByRecursion Q (drop i xs)) where
  -- it holds of the next one
  pub left_here : (d : X) → Q (get_or xs i d)
  left_here d = let b : AllByRecursion Q (get_or xs i d ∷ drop (i + 1) xs) = subst (AllByRecursion Q) (drop_more xs i d h) a in b.0

  -- and of those after it when that one is written
  pub left_after : (w : X) → AllByRecursion Q (drop (i + 1) (set xs i w))
  left_after w =
      let b : AllByRecursion Q (get_or xs i w ∷ drop (i + 1) xs) = subst (AllByRecursion Q) (drop_more xs i w h) a in
      subst (AllByRecursion Q) (sym (drop-set-lt (i + 1) xs i w (omega arith))) b.1
