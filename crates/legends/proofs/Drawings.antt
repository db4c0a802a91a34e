-- What a draw answers, as the drawing of its line does.
use Rattle.std.proofs.Common.{◌≡◌, ℕ, ◌≤◌, Bool, true, false, cond, not, List, length, Ok, Err, Result, sym, refl, ap, ◌∙◌, arith}
use Rattle.std.proofs.lemmas.Bool.Decides.{nat_tests}
use Rattle.signs.specs.declared.SignRow.{SignRow}
use Rattle.placement.specs.declared.Position.{Position}
use Rattle.placement.specs.Bounded.{bounded}
use Rattle.placement.specs.Steps as line
use Rattle.drawings.specs.declared.Refusal.{Refusal as DrawingRefusal}
use Rattle.drawings.specs.declared.Refusal.TheVariants as drawing
use Rattle.drawings.specs.DrawAnswers as draw_answers
use Rattle.drawings.specs.DrawAnswers.{has_room}
use Rattle.legends.specs.declared.legend.Legend.{Legend}
use Rattle.legends.specs.declared.refusal.Refusal.{Refusal}
use Rattle.legends.specs.declared.refusal.Refusal.TheVariants.{Length, NoRoom, OutOfBounds}
use Rattle.legends.specs.Refusals.{from_drawing}
use Rattle.legends.specs.Fits.{Fit}
use Rattle.legends.specs.Leaves.{state}
use Rattle.legends.specs.Answers.{fits, draw_answer}

abbrev pub risen : Result (Unit {0}) DrawingRefusal → Result (Unit {0}) Refusal
risen (Ok x) = Ok x
risen (Err e) = Err (from_drawing e)

abbrev line_answer : Bool → Bool → Bool → Result (Unit {0}) DrawingRefusal
line_answer u v w = cond (not u) (Err drawing.Length) (cond (not v) (Err drawing.NoRoom) (cond (not w) (Err drawing.OutOfBounds) (Ok tt)))

abbrev legend_answer : Bool → Bool → Bool → Result (Unit {0}) Refusal
legend_answer u v w = cond u (cond v (cond w (Ok tt) (Err OutOfBounds)) (Err NoRoom)) (Err Length)

by_tests : (v w : Bool) → risen (line_answer true v w) ≡ legend_answer true v w
by_tests true true = refl
by_tests true false = refl
by_tests false w = refl

line_fits : (n p : ℕ) → n ≤ 256 → p ≡ n → line.fits n n p ≡ true
line_fits n p few e = grind (arith, nat_tests)

pub answer_rises : (l : Legend) (signs mapped : List SignRow) (positions : List Position) → Fit l.len (length signs) (length mapped) (length positions) → fits (state l signs mapped positions) ≡ true
    → (items pens : ℕ) (r : Result (Unit {0}) DrawingRefusal) → r ≡ draw_answers.draw_answer mapped positions items pens
    → risen r ≡ draw_answer items pens (bounded mapped positions) (state l signs mapped positions)
answer_rises l signs mapped positions fit all items pens r e =
    let n = fit.of_mapped in
    let u = line_fits (length mapped) (length positions) (omega arith) (omega arith) in
    ap risen e
    ∙ ap (λ b. risen (line_answer b (has_room (length mapped) items pens) (bounded mapped positions))) u
    ∙ by_tests (has_room (length mapped) items pens) (bounded mapped positions)
    ∙ ap (λ k. legend_answer true (has_room k items pens) (bounded mapped positions)) n
    ∙ ap (λ b. legend_answer b (has_room l.len items pens) (bounded mapped positions)) (sym all)
