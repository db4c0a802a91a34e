-- A draw on the lists that calls have left is a look.
use Rattle.std.proofs.Common.{◌≡◌, ℕ, ◌≤◌, Bool, true, false, cond, ◌&&◌, eqb, leb, List, ◌++◌, length, take, drop, Ok, Err, Result, sym, refl, ap, ◌∙◌, arith, eqb-true}
use Rattle.std.proofs.lemmas.List.{take_at, drop_at}
use Rattle.std.proofs.lemmas.Bool.{and_parts, leb-true}
use Rattle.std.proofs.lemmas.Bool.Decides.{nat_tests}
use Rattle.signs.specs.declared.SignRow.{SignRow}
use Rattle.faces.specs.Meaning.{FaceMeaning, Keeps}
use Rattle.placement.specs.declared.Position.{Position}
use Rattle.placement.specs.declared.Settings.{Settings}
use Rattle.placement.specs.Bounded.{bounded}
use Rattle.placement.specs.Directions.{is_forward}
use Rattle.placement.specs.Route.{route}
use Rattle.drawings.specs.declared.Item.{Item}
use Rattle.drawings.specs.DrawAnswers.{has_room}
use Rattle.drawings.specs.Drawing.{drawn, drawn_over, side}
use Rattle.drawings.specs.Laws.{DrawingsStand}
use Rattle.legends.specs.declared.call.Call.{Call}
use Rattle.legends.specs.declared.legend.Legend.{Legend}
use Rattle.legends.specs.declared.refusal.Refusal.{Refusal}
use Rattle.legends.specs.declared.refusal.Refusal.TheVariants.{Length, NoRoom, OutOfBounds}
use Rattle.legends.specs.Book.{Book, book_after}
use Rattle.legends.specs.Fits.{Fit, fit}
use Rattle.legends.specs.Leaves.{State, state, left_by}
use Rattle.legends.specs.Answers.{fits, draw_answer, room_answer}
use Rattle.legends.specs.Laws.{HistoriesStand}
use Rattle.legends.specs.Promise.{Look, from_blank}

of_fit : (n a b c : ℕ) → fit n a b c ≡ true → Fit n a b c
of_fit n a b c e =
    let p = and_parts (leb n 256) (eqb a n && (eqb b n && eqb c n)) e in
    let q = and_parts (eqb a n) (eqb b n && eqb c n) p.1 in
    let r = and_parts (eqb b n) (eqb c n) q.1 in
    record { most = leb-true n 256 p.0; of_signs = eqb-true a n q.0; of_mapped = eqb-true b n r.0; of_positions = eqb-true c n r.1 }

module _ (drawings : DrawingsStand) (s : Settings) (mapped : List SignRow) (positions : List Position) (items : List Item) (n : ℕ)
    (of_mapped : length mapped ≡ n) (of_positions : length positions ≡ n) where
  drawn_long : length (drawn s (side mapped positions)) ≡ n
  drawn_long = (drawings.turn_by_turn (is_forward s.direction) mapped positions (of_positions ∙ sym of_mapped)).as_many ∙ of_positions

  -- the first items are those drawn, and what lies past them stays
  pub seen : take n (drawn_over s mapped positions items) ≡ drawn s (side mapped positions)
  seen = take_at (drawn s (side mapped positions)) (drop (length mapped) items) n drawn_long

  pub rest_stays : drop n (drawn_over s mapped positions items) ≡ drop n items
  rest_stays = drop_at (drawn s (side mapped positions)) (drop (length mapped) items) n drawn_long ∙ ap (λ k. drop k items) of_mapped

module _ (stand : HistoriesStand) (f : FaceMeaning) (n : ℕ) (calls : List Call) (l : Legend) (signs mapped : List SignRow) (positions : List Position)
    (left : state l signs mapped positions ≡ left_by f n calls) where
  -- what is drawn of these lists is the book drawn from blank
  pub drawn_left : drawn l.settings (side mapped positions) ≡ from_blank f (book_after n calls)
  drawn_left =
      let b : Book = book_after n calls in
      ap (λ (st : State). drawn st.legend.settings (side st.mapped st.positions)) (left ∙ stand.in_step f n calls)
      ∙ ap (drawn b.settings) (stand.drawings.side_by_side (route f b.settings b.signs))

  -- with what stood past the signs before
  pub drawn_past : length mapped ≡ n → (now items after : List Item) → after ≡ drawn_over l.settings mapped positions now → drop n now ≡ drop n items
      → after ≡ from_blank f (book_after n calls) ++ drop n items
  drawn_past of_mapped now items after e past =
      let d : List Item = drawn l.settings (side mapped positions) in
      e ∙ ap (λ k. d ++ drop k now) of_mapped ∙ ap (λ q. d ++ q) past ∙ ap (λ q. q ++ drop n items) drawn_left

  pub as_many : l.len ≡ n
  as_many = ap (λ (st : State). st.legend.len) (left ∙ stand.in_step f n calls)

  -- such lists fit a legend that is not too long
  pub fitted : n ≤ 256 → Fit l.len (length signs) (length mapped) (length positions)
  fitted few =
      let t : leb n 256 ≡ true = grind (arith, nat_tests) in
      of_fit l.len (length signs) (length mapped) (length positions) (ap fits left ∙ stand.fitting f n calls ∙ t)

  pub looks : Keeps f → Fit l.len (length signs) (length mapped) (length positions) → (items after : List Item) → after ≡ drawn_over l.settings mapped positions items → Look f n calls after
  looks keeps fit items after e =
      stand.promise f keeps n calls after
      (ap (take n) e ∙ seen stand.drawings l.settings mapped positions items n (fit.of_mapped ∙ as_many) (fit.of_positions ∙ as_many) ∙ drawn_left)

  -- such lists are never refused for what they hold, and for their lengths only where the legend is too long
  module _ (keeps : Keeps f) (items pens : ℕ) where
    abbrev st : State
    st = state l signs mapped positions

    abbrev tested : Bool → ℕ → Bool → Result (Unit {0}) Refusal
    tested u k b = cond u (cond (has_room k items pens) (cond b (Ok tt) (Err OutOfBounds)) (Err NoRoom)) (Err Length)

    fitting : fits st ≡ leb n 256
    fitting = ap fits left ∙ stand.fitting f n calls

    by_length : (v : Bool) → leb n 256 ≡ v → tested v l.len (bounded mapped positions) ≡ tested v n true
    by_length true e =
        let whole = ap (λ (st : State). bounded st.mapped st.positions) left ∙ stand.drawable f keeps n calls (leb-true n 256 e) in
        ap (tested true l.len) whole ∙ ap (λ k. tested true k true) as_many
    by_length false e = refl

    pub decided : (r : Result (Unit {0}) Refusal) → r ≡ draw_answer items pens (bounded mapped positions) st → r ≡ room_answer n items pens
    decided r a = a ∙ ap (λ v. tested v l.len (bounded mapped positions)) fitting ∙ by_length (leb n 256) refl
