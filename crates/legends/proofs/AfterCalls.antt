-- What holds after any list of calls, by the laws of lines and of drawings.
use Rattle.std.proofs.Common.{◌≡◌, ℕ, leb, List, length, take, sym, ap, ◌∙◌, subst, arith}
use Rattle.std.proofs.lemmas.List.{length-map}
use Rattle.std.proofs.lemmas.Bool.Decides.{nat_tests}
use Rattle.placement.specs.ByGroups.{LinesStand}
use Rattle.placement.specs.Bounds.{BoundsStand}
use Rattle.placement.specs.Bounded.{bounded}
use Rattle.placement.specs.Lines.{Cell, rows_of, positions_of}
use Rattle.placement.specs.Route.{route}
use Rattle.drawings.specs.Laws.{DrawingsStand}
use Rattle.drawings.specs.Promise.{Promise}
use Rattle.legends.specs.Book.{Book, book_after}
use Rattle.legends.specs.Fits.{fit}
use Rattle.legends.specs.Leaves.{State}
use Rattle.legends.specs.Answers.{fits}
use Rattle.legends.specs.Promise.{from_blank}
use Rattle.legends.specs.Laws.{HistoriesStand, Fitting, Drawable, LooksPromise}
use Rattle.legends.proofs.Books.{book_long, same_book}
use Rattle.legends.proofs.Steps.{in_step_lem}

same_length : (n a b c : ℕ) → a ≡ n → b ≡ n → c ≡ n → fit n a b c ≡ leb n 256
same_length n a b c p q r = grind (arith, nat_tests)

module _ (lines : LinesStand) (bounds : BoundsStand) (drawings : DrawingsStand) where
  fitting : Fitting
  fitting f n calls =
      let b : Book = book_after n calls in
      let long = lines.as_long f b.settings b.signs ∙ book_long n calls in
      let cells : List Cell = route f b.settings b.signs in
      ap fits (in_step_lem lines f n calls)
      ∙ same_length n (length b.signs) (length (rows_of cells)) (length (positions_of cells)) (book_long n calls) (length-map cells (λ (c : Cell). c.row) ∙ long) (length-map cells (λ (c : Cell). c.position) ∙ long)

  drawable : Drawable
  drawable f keeps n calls few =
      let b : Book = book_after n calls in
      ap (λ (st : State). bounded st.mapped st.positions) (in_step_lem lines f n calls)
      ∙ bounds.within_bounds f keeps b.settings b.signs (omega (arith, book_long n calls))

  promise : LooksPromise
  promise f keeps n calls items exact =
      let b : Book = book_after n calls in
      let kept : Promise f b.settings b.signs (take n items) = subst (Promise f b.settings b.signs) (sym exact) (drawings.promise f keeps b.settings b.signs) in
      record {
        exact = exact;
        alike = λ others a. ap (from_blank f) (same_book n calls others a) ∙ sym exact;
        shown = kept.shown;
        clear = kept.clear;
        centred = kept.centred;
      }

  pub histories_stand : HistoriesStand
  histories_stand = record { in_step = in_step_lem lines; one_book = same_book; fitting = fitting; drawable = drawable; promise = promise; drawings = drawings }
