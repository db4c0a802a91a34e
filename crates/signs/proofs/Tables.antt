-- What a table of classes gives, and the class that is got from it.
use Rattle.std.proofs.Common.{◌≡◌, ℕ, ◌/◌, ◌≤◌, Bool, true, false, cond, ◌&&◌, ◌==◌, eqb, leb, ◌⊎◌, Option, Some, None, List, [], ◌∷◌, ◌++◌, sym, refl, ap, subst, inl, inr, ⊎_elim, arith}
use Rattle.std.proofs.lemmas.Bool.{and_parts, cond_both, cond-true, cond-false, eqb-true, ne_eqb, leb-true, le-leb}
use Rattle.std.specs.List.{find}
use Rattle.signs.specs.Classes.{lookup, script_classes, thai_marks, lao_marks, by_script, by_code, recategorized}
use Rattle.signs.specs.Laws.{is_place, ClassesStand}

-- what an entry gives, or another class where there is none
abbrev pub class_in : ℕ → Option (ℕ × ℕ) → ℕ
class_in otherwise None = otherwise
class_in otherwise (Some e) = e.1

pub lookup_find : (wanted otherwise : ℕ) (t : List (ℕ × ℕ)) → lookup wanted otherwise t ≡ class_in otherwise (find (λ e. e.0 == wanted) t)
lookup_find wanted otherwise [] = refl
lookup_find wanted otherwise (e ∷ es) =
    elim (e.0 == wanted) as (λ b. cond b e.1 (lookup wanted otherwise es) ≡ class_in otherwise (cond b (Some e) (find (λ x. x.0 == wanted) es))) [
      | true ↦ refl
      | false ↦ lookup_find wanted otherwise es
    ]

-- every entry gives the class of a place
abbrev pub all_places : List (ℕ × ℕ) → Bool
all_places [] = true
all_places (e ∷ es) = is_place e.1 && all_places es

-- the class c, or that of a place
abbrev pub Settles : ℕ → ℕ → Type 0
Settles c x = (x ≡ c) ⊎ (is_place x ≡ true)

found : (wanted c : ℕ) (t : List (ℕ × ℕ)) → all_places t ≡ true → Settles c (lookup wanted c t)
found wanted c [] all = inl refl
found wanted c (e ∷ es) all =
    let p = and_parts (is_place e.1) (all_places es) all in
    cond_both (eqb e.0 wanted) e.1 (lookup wanted c es) (Settles c) (λ h. inr p.0) (λ h. found wanted c es p.1)

module _ (code c : ℕ) where
  listed : eqb c 0 ≡ true → Settles c (lookup code 0 (thai_marks ++ lao_marks))
  listed h =
      let P : ℕ → Type 0 = λ z. Settles z (lookup code 0 (thai_marks ++ lao_marks)) in
      subst P (sym (eqb-true c 0 h)) (found code 0 (thai_marks ++ lao_marks) refl)

  by_code_lem : Settles c (by_code code c)
  by_code_lem =
      cond_both (eqb (code / 256) 0x0E) _ c (Settles c)
      (λ h. cond_both (eqb c 0) _ (cond (eqb code 0x0E3A) 222 c) (Settles c) listed (λ h. cond_both (eqb code 0x0E3A) 222 c (Settles c) (λ h. inr refl) (λ h. inl refl)))
      (λ h. inl refl)

  placed : Settles c (recategorized code c)
  placed =
      cond_both (leb 200 c) c (by_script (by_code code c)) (Settles c)
      (λ h. inl refl)
      (λ h. ⊎_elim (λ e. subst (Settles c) (sym e) by_code_lem) (λ p. inr p) (found (by_code code c) (by_code code c) script_classes refl))

  stays : 200 ≤ c → recategorized code c ≡ c
  stays h = cond-true _ _ _ (le-leb 200 c h)

  pub recategorized_again : recategorized code (recategorized code c) ≡ recategorized code c
  recategorized_again =
      ⊎_elim (λ e. ap (recategorized code) e)
      (λ p. cond-true _ _ _ (and_parts (leb 200 (recategorized code c)) (leb (recategorized code c) 254) p).0)
      placed

  by_itself : (code / 256 ≡ 0x0E → ⊥) → recategorized code c ≡ recategorized 0 c
  by_itself other = ap (λ b. cond (leb 200 c) c (by_script b)) (cond-false _ _ _ (ne_eqb (code / 256) 0x0E other))

  pub recategorized_high : c ≤ 254 → recategorized code c ≤ 254
  recategorized_high h =
      ⊎_elim (λ e. omega (arith, e))
      (λ p. leb-true _ _ (and_parts (leb 200 (recategorized code c)) (leb (recategorized code c) 254) p).1)
      placed

pub classes_stand : ClassesStand
classes_stand code c = record { placed = placed code c; stays = stays code c; again = recategorized_again code c; by_itself = by_itself code c }
