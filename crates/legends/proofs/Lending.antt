-- A call that is lent a part of each list: with all of each list it is the call itself, with less it is refused.
use Rattle.std.proofs.Common.{◌≡◌, ℕ, ◌<◌, ◌≤◌, Bool, true, false, cond, ◌&&◌, min, ltb, leb, List, ◌++◌, length, take, drop, is_ok, Ok, Err, Result, sym, refl, ap, ◌∙◌, append-nil, arith}
use Rattle.std.proofs.lemmas.List.{take_all, drop_all, take-append-drop, length-take-le}
use Rattle.std.proofs.lemmas.Bool.{leb-true, leb-false}
use Rattle.std.proofs.Math.Nat.{min-eq_left, min-le_right}
use Rattle.std.proofs.lemmas.Bool.Decides.{nat_tests}
use Rattle.signs.specs.declared.SignRow.{SignRow}
use Rattle.placement.specs.declared.Position.{Position}
use Rattle.legends.specs.declared.legend.Legend.{Legend}
use Rattle.legends.specs.declared.call.Call.{Call}
use Rattle.legends.specs.declared.call.Call.TheVariants.{Put, Turn, Draw}
use Rattle.legends.specs.declared.refusal.Refusal.{Refusal}
use Rattle.legends.specs.declared.refusal.Refusal.TheVariants.{Length, NoPlace, NoRoom}
use Rattle.legends.specs.Book.{is_accepted}
use Rattle.legends.specs.Fits.{Fit, fit}
use Rattle.legends.specs.Leaves.{State, state, left_if}
use Rattle.legends.specs.Answers.{fits, answer_to}

short_unfit : (n a b c : ℕ) → a < n → fit n a b c ≡ false
short_unfit n a b c h = grind (arith, nat_tests)

pub same_fit : (n a b c : ℕ) → n ≤ 256 → a ≡ n → b ≡ n → c ≡ n → fit n a b c ≡ true
same_fit n a b c m p q r = grind (arith, nat_tests)

pub same_state : {l : Legend} {a b x y : List SignRow} {p q : List Position} → a ≡ x → b ≡ y → p ≡ q → state l a b p ≡ state l x y q
same_state e f h = cc

whole_behind : {X : Type 0} (xs ys : List X) (n : ℕ) → length xs ≡ n → ys ++ drop n xs ≡ ys
whole_behind xs ys n e = ap (λ t. ys ++ t) (drop_all n xs (omega arith)) ∙ append-nil ys

abbrev checked : Bool → Refusal → Result (Unit {0}) Refusal → Result (Unit {0}) Refusal
checked b e r = cond b r (Err e)

two : (u v : Bool) (e : Refusal) → is_ok (checked u Length (checked v e (Ok tt))) ≡ (u && v)
two true true e = refl
two true false e = refl
two false v e = refl

module _ (l : Legend) (signs mapped : List SignRow) (positions : List Position) (fitting : Fit l.len (length signs) (length mapped) (length positions)) where
  abbrev pub whole : State
  whole = state l signs mapped positions

  abbrev pub cut_to : ℕ → State
  cut_to k = state l (take k signs) (take k mapped) (take k positions)

  pub cut_all : (k : ℕ) → k ≡ l.len → cut_to k ≡ whole
  cut_all k e =
      let a = take_all k signs (omega arith) in
      let b = take_all k mapped (omega arith) in
      let c = take_all k positions (omega arith) in
      cc

  pub all_fit : fits whole ≡ true
  all_fit = same_fit l.len (length signs) (length mapped) (length positions) fitting.most fitting.of_signs fitting.of_mapped fitting.of_positions

  pub unfit : (k : ℕ) → k < l.len → fits (cut_to k) ≡ false
  unfit k h = short_unfit l.len (length (take k signs)) (length (take k mapped)) (length (take k positions)) (omega (arith, length-take-le k signs (omega arith)))

  -- what it answers, where the answer goes by the lengths of the lists and then by the legend alone
  module _ (lent k : ℕ) (reached : k ≡ min l.len lent) (r x : Result (Unit {0}) Refusal) (answer : r ≡ cond (fits (cut_to k)) x (Err Length)) where
    all_of : leb l.len lent ≡ true → k ≡ l.len
    all_of t = reached ∙ min-eq_left (leb-true l.len lent t)

    less_of : leb l.len lent ≡ false → k < l.len
    less_of t = let m = min-le_right l.len lent in omega (arith, leb-false l.len lent t)

    answer_by : (v : Bool) → leb l.len lent ≡ v → r ≡ cond v x (Err Length)
    answer_by true t = answer ∙ ap (λ b. cond b x (Err Length)) (ap fits (cut_all k (all_of t)) ∙ all_fit)
    answer_by false t = answer ∙ ap (λ b. cond b x (Err Length)) (unfit k (less_of t))

    pub lent_answer : r ≡ cond (leb l.len lent) x (Err Length)
    lent_answer = answer_by (leb l.len lent) refl

    module _ (change : State → State) (l' : Legend) (signs' mapped' : List SignRow) (positions' : List Position)
        (left : state l' signs' mapped' positions' ≡ left_if (is_ok r) change (cut_to k)) where
      left_by : (v : Bool) → leb l.len lent ≡ v
          → state l' (signs' ++ drop k signs) (mapped' ++ drop k mapped) (positions' ++ drop k positions) ≡ left_if (is_ok r) change whole
      left_by true t =
          let e = all_of t in
          let a = whole_behind signs signs' k (omega arith) in
          let b = whole_behind mapped mapped' k (omega arith) in
          let c = whole_behind positions positions' k (omega arith) in
          let s : state l' (signs' ++ drop k signs) (mapped' ++ drop k mapped) (positions' ++ drop k positions) ≡ state l' signs' mapped' positions' = cc in
          s ∙ left ∙ ap (left_if (is_ok r) change) (cut_all k e)
      left_by false t =
          let no : is_ok r ≡ false = ap is_ok (answer_by false t) in
          let was : state l' signs' mapped' positions' ≡ cut_to k = left ∙ ap (λ b. left_if b change (cut_to k)) no in
          let a = take-append-drop k signs in
          let b = take-append-drop k mapped in
          let c = take-append-drop k positions in
          let s : state l' (signs' ++ drop k signs) (mapped' ++ drop k mapped) (positions' ++ drop k positions) ≡ whole = cc in
          s ∙ ap (λ b. left_if b change whole) (sym no)

      -- what it leaves of the whole lists
      pub lent_leaves : state l' (signs' ++ drop k signs) (mapped' ++ drop k mapped) (positions' ++ drop k positions) ≡ left_if (is_ok r) change whole
      lent_leaves = left_by (leb l.len lent) refl

-- a call is accepted where it is answered so
pub accepted_is : (n : ℕ) (c : Call) → is_ok (answer_to n c) ≡ is_accepted n c
accepted_is n (Put lent place row) = two (leb n lent) (ltb place n) NoPlace
accepted_is n (Turn lent settings) = elim (leb n lent) as (λ u. is_ok (checked u Length (Ok tt)) ≡ u) [ true ↦ refl | false ↦ refl ]
accepted_is n (Draw lent room) = two (leb n lent) (leb n room) NoRoom

-- a list that is split in two
pub record Split {X : Type 0} (k : ℕ) (xs front back : List X) : Type 0 where
  pub front_is : front ≡ take k xs
  pub back_is : back ≡ drop k xs

-- a call on the fronts of the lists, as the whole lists show it
module _ (l : Legend) {signs mapped s t m n : List SignRow} {positions p q : List Position} (fitting : Fit l.len (length signs) (length mapped) (length positions))
    (lent k : ℕ) (reached : k ≡ min l.len lent) (ss : Split k signs s t) (ms : Split k mapped m n) (ps : Split k positions p q) where
  cut : state l s m p ≡ state l (take k signs) (take k mapped) (take k positions)
  cut = same_state ss.front_is ms.front_is ps.front_is

  pub carried : (call : Call) (r x : Result (Unit {0}) Refusal) → r ≡ cond (fits (state l s m p)) x (Err Length) → cond (leb l.len lent) x (Err Length) ≡ answer_to l.len call
      → (change : State → State) (l' : Legend) (s' m' : List SignRow) (p' : List Position) → state l' s' m' p' ≡ left_if (is_ok r) change (state l s m p)
      → state l' (s' ++ t) (m' ++ n) (p' ++ q) ≡ left_if (is_accepted l.len call) change (state l signs mapped positions)
  carried call r x answer is change l' s' m' p' left =
      let made = answer ∙ ap (λ (st : State). cond (fits st) x (Err Length)) cut in
      let ok = ap is_ok (lent_answer l signs mapped positions fitting lent k reached r x made ∙ is) ∙ accepted_is l.len call in
      same_state (ap (λ xs. s' ++ xs) ss.back_is) (ap (λ xs. m' ++ xs) ms.back_is) (ap (λ xs. p' ++ xs) ps.back_is)
      ∙ lent_leaves l signs mapped positions fitting lent k reached r x made change l' s' m' p' (left ∙ ap (left_if (is_ok r) change) cut)
      ∙ ap (λ b. left_if b change (state l signs mapped positions)) ok

-- a call that changes nothing
pub same_if : (accepted : Bool) (st : State) → st ≡ left_if accepted (λ (s : State). s) st
same_if true st = refl
same_if false st = refl
