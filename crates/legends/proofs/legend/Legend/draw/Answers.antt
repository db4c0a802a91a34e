use Rattle.std.proofs.Common.{◌≡◌, ℕ, true, false, cond, length, is_ok, Ok, Err, Result, sym, refl, ap, ◌∙◌, subst, arith, rules}
use Rattle.std.proofs.lemmas.Result.{err_from_is_err_and}
use Rattle.placement.specs.Bounded.{bounded}
use Rattle.drawings.specs.Drawing.{drawn_over}
use Rattle.drawings.specs.DrawAnswers.{PensAfter}
use Rattle.legends.specs.declared.refusal.Refusal.{Refusal}
use Rattle.legends.specs.declared.refusal.Refusal.TheVariants.{Length}
use Rattle.legends.specs.Refusals.{from_drawing}
use Rattle.legends.specs.Answers.{draw_answer}
use Rattle.legends.specs.Leaves.{state}
use Rattle.legends.proofs.Drawings.{answer_rises}
use Rattle.legends.proofs.Looks.{looks, decided}
use Rattle.legends.proofs.legend.Legend.draw.Goals as goal

never : {P : Type 0} → false ≡ true → P
never e = let z : ◌≡◌ {A = ℕ} 0 1 = cc in absurd (omega arith)

pub returns-then-not-fit : goal.returns-then-not-fit
returns-then-not-fit c =
    let l = c.args.self.now in
    let signs = c.args.view.now.signs.now in
    let mapped = c.args.view.now.mapped.now in
    let positions = c.args.view.now.positions.now in
    let room = length c.args.room.now.items.now in
    let pens = length c.args.room.now.pens.now in
    let answer : Err Length ≡ draw_answer room pens (bounded mapped positions) (state l signs mapped positions) = search rules in
    record {
      answer = answer;
      items = refl;
      pens = refl;
      same = record { items = refl; pens = refl; as_many_items = refl; as_many_pens = refl };
      decided = λ f keeps n calls left. decided c.histories_stand.ensures f n calls l signs mapped positions left keeps room pens (Err Length) answer;
      look = λ f keeps n calls left ok. never ok;
    }

pub returns-in_err-draw_line : goal.returns-in_err-draw_line
returns-in_err-draw_line c =
    let l = c.args.self.now in
    let signs = c.args.view.now.signs.now in
    let mapped = c.args.view.now.mapped.now in
    let positions = c.args.view.now.positions.now in
    let room = length c.args.room.now.items.now in
    let pens = length c.args.room.now.pens.now in
    let fit = c.if-not-fit.ensures in
    let refused = c.in_err-draw_line.ensures in
    let e = c.in_err-draw_line.field-0.0 in
    let r = c.from_residual.result in
    let by = err_from_is_err_and r c.from_residual.ensures.1 in
    let is : r ≡ Err (from_drawing e) = by.1 ∙ ap Err by.2 in
    let answer = is ∙ answer_rises l signs mapped positions (fit.lengths refl) (sym fit.value) room pens (Err e) refused.answer in
    let items = c.args.room.now.items.now in
    record {
      answer = answer;
      items = refused.items ∙ sym (ap (λ (a : Result (Unit {0}) Refusal). cond (is_ok a) (drawn_over l.settings mapped positions items) items) is);
      pens = subst (λ (a : Result (Unit {0}) Refusal). PensAfter (is_ok a) c.args.room.now.pens.now c.draw_line.new.room.pens.now) (sym is) refused.pens;
      same = refused.same;
      decided = λ f keeps n calls left. decided c.histories_stand.ensures f n calls l signs mapped positions left keeps room pens r answer;
      look = λ f keeps n calls left ok. never (sym (ap is_ok is) ∙ ok);
    }

pub returns : goal.returns
returns c =
    let l = c.args.self.now in
    let signs = c.args.view.now.signs.now in
    let mapped = c.args.view.now.mapped.now in
    let positions = c.args.view.now.positions.now in
    let room = length c.args.room.now.items.now in
    let pens = length c.args.room.now.pens.now in
    let fit = c.if-not-fit.ensures in
    let drawn = c.in_ok-draw_line.ensures in
    let answer = answer_rises l signs mapped positions (fit.lengths refl) (sym fit.value) room pens (Ok tt) drawn.answer in
    record {
      answer = answer;
      items = drawn.items;
      pens = drawn.pens;
      same = drawn.same;
      decided = λ f keeps n calls left. decided c.histories_stand.ensures f n calls l signs mapped positions left keeps room pens (Ok tt) answer;
      look = λ f keeps n calls left ok. looks c.histories_stand.ensures f n calls l signs mapped positions left keeps (fit.lengths refl) c.args.room.now.items.now c.draw_line.new.room.items.now drawn.items;
    }
