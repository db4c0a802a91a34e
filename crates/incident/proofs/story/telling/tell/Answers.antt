use Rattle.std.proofs.Common.{◌≡◌, ℕ, Bool, false, List, [], ap, ◌∙◌}
use Rattle.signs.specs.declared.SignRow.{SignRow}
use Rattle.placement.specs.declared.Position.{Position}
use Rattle.legends.specs.declared.Legend.{Legend}
use Rattle.placement.specs.declared.Direction.TheVariants.{RightToLeft}
use Rattle.placement.specs.declared.Settings.{Settings}
use Rattle.legends.specs.Leaves.{State, state, after_put, after_turn}
use Rattle.legends.specs.Lent.{state_of}
use Rattle.incident.specs.Story.{letter_sign, bar_over, bar_beneath, leftward, put_letter, then_locked, then_closed, then_turned}
use Rattle.incident.proofs.story.telling.tell.Goals as goal

-- a call's step, carried on from what the calls before it have left
carried : (change : State → State) (st next : State) {left : State} → next ≡ change st → st ≡ left → next ≡ change left
carried change st next made was = made ∙ ap change was

-- a view of lists shows the state that they are in
in_view : {l : Legend} {a b x y : List SignRow} {p q : List Position} {st : State} → a ≡ x → b ≡ y → p ≡ q → state l x y q ≡ st → state l a b p ≡ st
in_view e f h s = cc

to_left : {script : ℕ} {adjust : Bool} → script ≡ 0 → adjust ≡ false → ◌≡◌ {A = Settings} (record { direction = RightToLeft; script = script; adjust = adjust }) leftward
to_left p q = cc

pub returns : goal.returns
returns g c =
    let f = g.F.Face.meaning c.args.face.now in
    let keeps = g.F.Face.keeps c.args.face.now in
    let legend = c.in_ok-legend.legend in
    let made = state_of legend c.make.new.lists in
    let one = state_of legend c.put.new.lists in
    let two = state_of legend c.put-2.new.lists in
    let three = state_of legend c.put-3.new.lists in
    let four = state c.turn.new.self c.put-3.new.lists.signs.now c.turn.new.mapped c.turn.new.positions in
    let plain = c.default.ensures in
    let set = ap (λ (s : Settings). after_turn f s three) (to_left plain.1.0 plain.1.1) in
    let blank = c.in_ok-legend.ensures.made in
    let letter = carried (after_put f 0 letter_sign) made one c.in_ok-put.ensures.lists blank in
    let locked = carried (after_put f 1 bar_over) one two c.in_ok-put-2.ensures.lists letter in
    let closed = carried (after_put f 1 bar_beneath) two three c.in_ok-put-3.ensures.lists locked in
    let turned = carried (after_turn f leftward) three four (c.in_ok-turn.ensures.lists ∙ set) closed in
    record {
      blank = c.seen-blank.ensures f keeps [] (in_view c.view.ensures.signs c.view.ensures.mapped c.view.ensures.positions blank);
      letter = c.seen-letter.ensures f keeps put_letter (in_view c.view-2.ensures.signs c.view-2.ensures.mapped c.view-2.ensures.positions letter);
      locked = c.seen-locked.ensures f keeps then_locked (in_view c.view-3.ensures.signs c.view-3.ensures.mapped c.view-3.ensures.positions locked);
      closed = c.seen-closed.ensures f keeps then_closed (in_view c.view-4.ensures.signs c.view-4.ensures.mapped c.view-4.ensures.positions closed);
      turned = c.seen-turned.ensures f keeps then_turned turned;
    }
