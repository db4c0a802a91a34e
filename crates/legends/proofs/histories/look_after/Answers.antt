use Rattle.std.proofs.Common.{◌≡◌, ℕ, ◌<◌, length, get_or, take, is_ok, Ok, Err, Result, sym, refl, ap, ◌∙◌, arith}
use Rattle.placement.specs.Bounded.{bounded}
use Rattle.legends.specs.declared.call.Call.TheVariants.{Put}
use Rattle.legends.specs.declared.refusal.Refusal.{Refusal}
use Rattle.drawings.specs.Pens.{no_row}
use Rattle.legends.specs.Leaves.{State, state, lists_of}
use Rattle.legends.specs.Lent.{state_of}
use Rattle.legends.proofs.Lending.{same_state}
use Rattle.legends.proofs.Looks.{as_many, fitted, drawn_past}
use Rattle.legends.proofs.OneMore.{left_more, left_all, past_stays, draw_ok, look_ok}
use Rattle.legends.proofs.histories.look_after.Goals as goal

pub obey-requires : goal.obey-requires
obey-requires g c =
    let f = g.F.Face.meaning c.args.face.now in
    let stand = c.histories_stand.ensures in
    let n = c.args.len in
    let l = c.loop-call in
    let lent = l.lists in
    let done = take l.call-index c.args.calls.now in
    let fits = c.if-not-fit.ensures.lengths refl in
    let enough = c.if-not-holds.ensures.lengths refl in
    let items = l.invariant.same_room.as_many_items in
    let pens = l.invariant.same_room.as_many_pens in
    let same : l.legend.len ≡ n = as_many stand f n done l.legend lent.signs.now lent.mapped.now lent.positions.now l.invariant.left in
    record {
      fit = fitted stand f n done l.legend lent.signs.now lent.mapped.now lent.positions.now l.invariant.left fits.most;
      room = (omega arith, omega arith);
      bounded = ap (λ (st : State). bounded st.mapped st.positions) l.invariant.left ∙ stand.drawable f (g.F.Face.keeps c.args.face.now) n done (omega arith);
    }

pub loop-call-init : goal.loop-call-init
loop-call-init g c =
    record {
      left = c.in_ok-legend.ensures.made;
      past = refl;
      same = record { signs = refl; mapped = refl; positions = refl; as_many_signs = refl; as_many_mapped = refl; as_many_positions = refl };
      same_room = record { items = refl; pens = refl; as_many_items = refl; as_many_pens = refl };
    }

pub loop-call-preserved : goal.loop-call-preserved
loop-call-preserved g c =
    let f = g.F.Face.meaning c.args.face.now in
    let stand = c.histories_stand.ensures in
    let n = c.args.len in
    let calls = c.args.calls.now in
    let l = c.loop-call in
    let lent = l.lists in
    let i = l.call-index in
    let fits = c.if-not-fit.ensures.lengths refl in
    let enough = c.if-not-holds.ensures.lengths refl in
    let same : l.legend.len ≡ n = as_many stand f n (take i calls) l.legend lent.signs.now lent.mapped.now lent.positions.now l.invariant.left in
    let fit = fitted stand f n (take i calls) l.legend lent.signs.now lent.mapped.now lent.positions.now l.invariant.left fits.most in
    let call = get_or calls i (Put 0 0 no_row) in
    let h : i < length calls = omega arith in
    let next = state c.obey.new.legend c.obey.new.signs c.obey.new.mapped c.obey.new.positions in
    let so_far = l.invariant in
    record {
      left = left_more f n calls i (Put 0 0 no_row) (state_of l.legend lent) next h so_far.left c.obey.ensures.lists;
      past = past_stays stand.drawings l.legend lent.signs.now lent.mapped.now lent.positions.now l.room.items.now n same fit call (is_ok c.obey.result) c.obey.new.items c.obey.ensures.items ∙ so_far.past;
      same = record {
        signs = so_far.same.signs;
        mapped = so_far.same.mapped;
        positions = so_far.same.positions;
        as_many_signs = c.obey.auto.signs ∙ so_far.same.as_many_signs;
        as_many_mapped = c.obey.auto.mapped ∙ so_far.same.as_many_mapped;
        as_many_positions = c.obey.auto.positions ∙ so_far.same.as_many_positions;
      };
      same_room = record {
        items = so_far.same_room.items;
        pens = so_far.same_room.pens;
        as_many_items = c.obey.auto.items ∙ so_far.same_room.as_many_items;
        as_many_pens = c.obey.auto.pens ∙ so_far.same_room.as_many_pens;
      };
    }

pub returns-in_err-draw : goal.returns-in_err-draw
returns-in_err-draw g c =
    let f = g.F.Face.meaning c.args.face.now in
    let stand = c.histories_stand.ensures in
    let n = c.args.len in
    let calls = c.args.calls.now in
    let l = c.loop-call in
    let lent = l.lists in
    let fits = c.if-not-fit.ensures.lengths refl in
    let enough = c.if-not-holds.ensures.lengths refl in
    let items = l.invariant.same_room.as_many_items in
    let pens = l.invariant.same_room.as_many_pens in
    let left = left_all f n calls l.call-index (state_of l.legend lent) (omega arith) l.invariant.left in
    let same : l.legend.len ≡ n = as_many stand f n calls l.legend lent.signs.now lent.mapped.now lent.positions.now left in
    let ok = draw_ok n (length l.room.items.now) (length l.room.pens.now) (omega arith) (omega arith) (omega arith) in
    let refused : Result (Unit {0}) Refusal = Err c.in_err-draw.field-0.0 in
    let seen = same_state c.view.ensures.signs c.view.ensures.mapped c.view.ensures.positions ∙ left in
    let both = ◌∙◌ {a = refused} (c.in_err-draw.ensures.decided f (g.F.Face.keeps c.args.face.now) n calls seen) ok in
    let z : ◌≡◌ {A = ℕ} 0 1 = cc in
    absurd (omega arith)

pub returns : goal.returns
returns g c =
    let f = g.F.Face.meaning c.args.face.now in
    let stand = c.histories_stand.ensures in
    let n = c.args.len in
    let calls = c.args.calls.now in
    let l = c.loop-call in
    let lent = l.lists in
    let mine = c.args.lists.now in
    let fits = c.if-not-fit.ensures.lengths refl in
    let enough = c.if-not-holds.ensures.lengths refl in
    let left = left_all f n calls l.call-index (state_of l.legend lent) (omega arith) l.invariant.left in
    let same : l.legend.len ≡ n = as_many stand f n calls l.legend lent.signs.now lent.mapped.now lent.positions.now left in
    let fit = fitted stand f n calls l.legend lent.signs.now lent.mapped.now lent.positions.now left fits.most in
    let of_mapped : length lent.mapped.now ≡ n = fit.of_mapped ∙ same in
    let view = c.view.result in
    let seen = same_state c.view.ensures.signs c.view.ensures.mapped c.view.ensures.positions ∙ left in
    let of_seen : length view.mapped.now ≡ n = ap length c.view.ensures.mapped ∙ of_mapped in
    let made = c.in_ok-draw.ensures in
    let items = c.args.room.now.items.now in
    let first = c.in_ok-legend.ensures.same in
    let last = l.invariant.same in
    let roomed = l.invariant.same_room in
    let as_many_items = roomed.as_many_items in
    let as_many_pens = roomed.as_many_pens in
    record {
      answer =
          ap Ok (ap (λ (q : State). q.legend) (left ∙ stand.in_step f n calls))
          ∙ sym (look_ok n calls (length mine.signs.now) (length mine.mapped.now) (length mine.positions.now) (length items) (length c.args.room.now.pens.now) fits (omega arith) (omega arith));
      lists = ap lists_of left;
      same = record {
        signs = last.signs ∙ first.signs;
        mapped = last.mapped ∙ first.mapped;
        positions = last.positions ∙ first.positions;
        as_many_signs = last.as_many_signs ∙ first.as_many_signs;
        as_many_mapped = last.as_many_mapped ∙ first.as_many_mapped;
        as_many_positions = last.as_many_positions ∙ first.as_many_positions;
      };
      items = drawn_past stand f n calls l.legend view.signs.now view.mapped.now view.positions.now seen of_seen l.room.items.now items c.draw.new.room.items.now made.items l.invariant.past;
      pens = omega arith;
      same_room = record {
        items = made.same.items ∙ roomed.items;
        pens = made.same.pens ∙ roomed.pens;
        as_many_items = made.same.as_many_items ∙ roomed.as_many_items;
        as_many_pens = made.same.as_many_pens ∙ roomed.as_many_pens;
      };
      look = λ _. made.look f (g.F.Face.keeps c.args.face.now) n calls seen refl;
    }
