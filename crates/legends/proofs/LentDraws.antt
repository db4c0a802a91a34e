-- A draw that is lent a part of each list, and a part of the drawing and of the pens.
use Rattle.std.proofs.Common.{◌≡◌, ℕ, ◌≤◌, Bool, true, false, cond, ◌&&◌, min, leb, List, ◌++◌, length, take, drop, is_ok, Ok, Err, Result, sym, refl, ap, ◌∙◌, arith}
use Rattle.std.proofs.lemmas.List.{append_assoc, take_all, take-append-drop, length-take-le, drop-append-le}
use Rattle.std.proofs.lemmas.Bool.{and_parts, leb-true, leb-false}
use Rattle.std.proofs.Math.Nat.{min-eq_left, min-le_left, min-le_right}
use Rattle.std.proofs.lemmas.Bool.Decides.{nat_tests}
use Rattle.signs.specs.declared.SignRow.{SignRow}
use Rattle.placement.specs.declared.Position.{Position}
use Rattle.placement.specs.Bounded.{bounded}
use Rattle.drawings.specs.declared.Item.{Item}
use Rattle.drawings.specs.DrawAnswers.{has_room}
use Rattle.drawings.specs.Drawing.{drawn, drawn_over, side}
use Rattle.legends.specs.declared.legend.Legend.{Legend}
use Rattle.legends.specs.declared.call.Call.TheVariants.{Draw}
use Rattle.legends.specs.declared.refusal.Refusal.{Refusal}
use Rattle.legends.specs.declared.refusal.Refusal.TheVariants.{Length, NoRoom, OutOfBounds}
use Rattle.legends.specs.Fits.{Fit}
use Rattle.legends.specs.Answers.{fits, draw_answer, answer_to}
use Rattle.legends.proofs.Lending.{cut_to, cut_all, all_fit, unfit, accepted_is}

-- a list that is long enough has room where enough of it is lent
room_in : (n len room : ℕ) → n ≤ len → leb n (min len room) ≡ leb n room
room_in n len room h = grind (arith, nat_tests)

both : (b : Bool) → (b && b) ≡ b
both true = refl
both false = refl

lent_long : {X : Type 0} (xs : List X) (k room : ℕ) → k ≡ min (length xs) room → length (take k xs) ≡ k
lent_long xs k room e = let m = min-le_left (length xs) room in length-take-le k xs (omega arith)

module _ (l : Legend) (signs mapped : List SignRow) (positions : List Position) (fitting : Fit l.len (length signs) (length mapped) (length positions))
    (in_bounds : bounded mapped positions ≡ true) (lent room k : ℕ) (reached : k ≡ min l.len lent) where
  abbrev n : ℕ
  n = l.len

  abbrev roomed : Bool → Bool → Result (Unit {0}) Refusal
  roomed v w = cond v (cond w (Ok tt) (Err OutOfBounds)) (Err NoRoom)

  module _ {P : Type 0} (items : List Item) (pens : List P) (ki kp : ℕ) (ri : ki ≡ min (length items) room) (rp : kp ≡ min (length pens) room)
      (li : n ≤ length items) (lp : n ≤ length pens) (r : Result (Unit {0}) Refusal)
      (answer : r ≡ draw_answer (length (take ki items)) (length (take kp pens)) (bounded (take k mapped) (take k positions)) (cut_to l signs mapped positions fitting k)) where
    has_room_lem : has_room n (length (take ki items)) (length (take kp pens)) ≡ leb n room
    has_room_lem =
        ap (λ (x : ℕ). leb n x && leb n (length (take kp pens))) (lent_long items ki room ri ∙ ri)
        ∙ ap (λ (x : ℕ). leb n (min (length items) room) && leb n x) (lent_long pens kp room rp ∙ rp)
        ∙ ap (λ b. b && leb n (min (length pens) room)) (room_in n (length items) room li)
        ∙ ap (λ b. leb n room && b) (room_in n (length pens) room lp)
        ∙ both (leb n room)

    answer_by : (v : Bool) → leb n lent ≡ v → r ≡ cond v (cond (leb n room) (Ok tt) (Err NoRoom)) (Err Length)
    answer_by true t =
        let e : k ≡ n = reached ∙ min-eq_left (leb-true n lent t) in
        let m = take_all k mapped (omega arith) in
        let p = take_all k positions (omega arith) in
        let b : bounded (take k mapped) (take k positions) ≡ true = ap (λ q. bounded q (take k positions)) m ∙ ap (bounded mapped) p ∙ in_bounds in
        let h : Bool = has_room n (length (take ki items)) (length (take kp pens)) in
        answer
        ∙ ap (λ u. cond u (roomed h (bounded (take k mapped) (take k positions))) (Err Length)) (ap fits (cut_all l signs mapped positions fitting k e) ∙ all_fit l signs mapped positions fitting)
        ∙ ap (roomed h) b
        ∙ ap (λ v. roomed v true) has_room_lem
    answer_by false t =
        let short = min-le_right n lent in
        answer
        ∙ ap (λ u. cond u (roomed (has_room n (length (take ki items)) (length (take kp pens))) (bounded (take k mapped) (take k positions))) (Err Length)) (unfit l signs mapped positions fitting k (omega (arith, leb-false n lent t)))

    pub draw_answer_lem : r ≡ answer_to n (Draw lent room)
    draw_answer_lem = answer_by (leb n lent) refl

    accepted : is_ok r ≡ (leb n lent && leb n room)
    accepted = ap is_ok draw_answer_lem ∙ accepted_is n (Draw lent room)

    module _ (after : List Item) (made : after ≡ cond (is_ok r) (drawn_over l.settings (take k mapped) (take k positions) (take ki items)) (take ki items)) where
      items_by : (v : Bool) → is_ok r ≡ v → after ++ drop ki items ≡ cond v (drawn_over l.settings mapped positions items) items
      items_by true t =
          let yes = and_parts (leb n lent) (leb n room) (sym accepted ∙ t) in
          let e : k ≡ n = reached ∙ min-eq_left (leb-true n lent yes.0) in
          let m = take_all k mapped (omega arith) in
          let p = take_all k positions (omega arith) in
          let w = leb-true n room yes.1 in
          let d : List Item = drawn l.settings (side mapped positions) in
          let all = take-append-drop ki items in
          let q : length mapped ≤ length (take ki items) = omega (arith, lent_long items ki room ri, leb-true n ki (ap (leb n) ri ∙ room_in n (length items) room li ∙ yes.1)) in
          ap (λ x. x ++ drop ki items) (made ∙ ap (λ b. cond b (drawn_over l.settings (take k mapped) (take k positions) (take ki items)) (take ki items)) t ∙ ap (λ x. drawn_over l.settings x (take k positions) (take ki items)) m ∙ ap (λ x. drawn_over l.settings mapped x (take ki items)) p)
          ∙ append_assoc d (drop (length mapped) (take ki items)) (drop ki items)
          ∙ ap (λ x. d ++ x) (sym (drop-append-le (length mapped) (take ki items) (drop ki items) q) ∙ ap (drop (length mapped)) all)
      items_by false t = ap (λ x. x ++ drop ki items) (made ∙ ap (λ b. cond b (drawn_over l.settings (take k mapped) (take k positions) (take ki items)) (take ki items)) t) ∙ take-append-drop ki items

      pub draw_items : after ++ drop ki items ≡ cond (is_ok r) (drawn_over l.settings mapped positions items) items
      draw_items = items_by (is_ok r) refl
