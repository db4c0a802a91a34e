-- Calls carried out one after another.
use Rattle.std.proofs.Common.{◌≡◌, ℕ, ◌+◌, ◌<◌, ◌≤◌, Bool, true, false, cond, leb, List, [], ◌∷◌, ◌++◌, length, get_or, take, drop, Ok, sym, refl, ap, ◌∙◌, arith}
use Rattle.std.proofs.lemmas.List.{take_more, take_all}
use Rattle.std.proofs.lemmas.Bool.Decides.{nat_tests}
use Rattle.signs.specs.declared.SignRow.{SignRow}
use Rattle.faces.specs.Meaning.{FaceMeaning}
use Rattle.placement.specs.declared.Position.{Position}
use Rattle.drawings.specs.declared.Item.{Item}
use Rattle.drawings.specs.Laws.{DrawingsStand}
use Rattle.drawings.specs.DrawAnswers.{has_room}
use Rattle.legends.specs.declared.legend.Legend.{Legend}
use Rattle.legends.specs.declared.call.Call.{Call}
use Rattle.legends.specs.declared.call.Call.TheVariants.{Put, Turn, Draw}
use Rattle.legends.specs.Book.{book_after}
use Rattle.legends.specs.Fits.{Fit}
use Rattle.legends.specs.Leaves.{State, state, drawn_by, leaves, leaves_all, left_by, after_make}
use Rattle.legends.specs.Answers.{room_answer, look_answer}
use Rattle.legends.proofs.Lending.{same_fit}
use Rattle.legends.proofs.Looks.{rest_stays}

module _ (f : FaceMeaning) where
  leaves_last : (calls : List Call) (c : Call) (st : State) → leaves_all f (calls ++ c ∷ []) st ≡ leaves f c (leaves_all f calls st)
  leaves_last [] c st = refl
  leaves_last (b ∷ calls) c st = leaves_last calls c (leaves f b st)

  -- one call more
  pub left_more : (n : ℕ) (calls : List Call) (i : ℕ) (d : Call) (st next : State) → i < length calls → st ≡ left_by f n (take i calls) → next ≡ leaves f (get_or calls i d) st
      → next ≡ left_by f n (take (i + 1) calls)
  left_more n calls i d st next h was made =
      made ∙ ap (leaves f (get_or calls i d)) was
      ∙ sym (leaves_last (take i calls) (get_or calls i d) (after_make f n))
      ∙ ap (left_by f n) (sym (take_more calls i d h))

  pub left_all : (n : ℕ) (calls : List Call) (i : ℕ) (st : State) → length calls ≤ i → st ≡ left_by f n (take i calls) → st ≡ left_by f n calls
  left_all n calls i st h was = was ∙ ap (left_by f n) (take_all i calls h)

-- no call writes in the drawing past the signs
module _ (drawings : DrawingsStand) (l : Legend) (signs mapped : List SignRow) (positions : List Position) (items : List Item) (n : ℕ) (same : l.len ≡ n)
    (fit : Fit l.len (length signs) (length mapped) (length positions)) where
  past : (c : Call) → drop n (drawn_by c (state l signs mapped positions) items) ≡ drop n items
  past (Put lent place row) = refl
  past (Turn lent settings) = refl
  past (Draw lent room) = rest_stays drawings l.settings mapped positions items n (fit.of_mapped ∙ same) (fit.of_positions ∙ same)

  pub past_stays : (c : Call) (accepted : Bool) (after : List Item) → after ≡ cond accepted (drawn_by c (state l signs mapped positions) items) items → drop n after ≡ drop n items
  past_stays c true after e = ap (drop n) e ∙ past c
  past_stays c false after e = ap (drop n) e

room_true : (n items pens : ℕ) → n ≤ items → n ≤ pens → has_room n items pens ≡ true
room_true n items pens a b = grind (arith, nat_tests)

-- where the lists fit and there is room, a draw on what calls have left is accepted, and so is a look
pub draw_ok : (n items pens : ℕ) → n ≤ 256 → n ≤ items → n ≤ pens → room_answer n items pens ≡ Ok tt
draw_ok n items pens few a b =
    let t : leb n 256 ≡ true = grind (arith, nat_tests) in
    let r = room_true n items pens a b in
    rw (t, r)

pub look_ok : (n : ℕ) (calls : List Call) (signs mapped positions items pens : ℕ) → Fit n signs mapped positions → n ≤ items → n ≤ pens
    → look_answer n calls signs mapped positions items pens ≡ Ok (record { len = n; settings = (book_after n calls).settings })
look_ok n calls signs mapped positions items pens fit a b =
    let t = same_fit n signs mapped positions fit.most fit.of_signs fit.of_mapped fit.of_positions in
    let r = room_true n items pens a b in
    rw (t, r)
