use Rattle.std.proofs.Common.{◌≡◌, ℕ, List, [], Some, Ok, Err, Result, sym, refl, ap, ◌∙◌}
use Rattle.std.specs.Result.{IsOkAnd, result_ok}
use Rattle.std.proofs.lemmas.Option.{none-some, same_Some}
use Rattle.faces.specs.Meaning.{FaceMeaning}
use Rattle.faces.specs.Recorded.{recorded_meaning}
use Rattle.faces.specs.Refusals.{outcome}
use Rattle.drawings.specs.declared.Item.{Item}
use Rattle.legends.specs.declared.Call.{Call}
use Rattle.legends.specs.Book.{book_after}
use Rattle.legends.specs.Promise.{from_blank}
use Rattle.incident.specs.Story.{put_letter, then_locked, then_closed, then_turned}
use Rattle.live.specs.declared.shown.Shown.{Shown}
use Rattle.live.specs.Shown.{spaces, letter_alone, locked, closed, turned}
use Rattle.live.proofs.Exact.{exactly}
use Rattle.live.proofs.shown.telling.on_the_panel.Goals as goal

-- a book over the face that is made
abbrev drawn_by : List Call → Result FaceMeaning ℕ → List Item
drawn_by calls (Ok f) = from_blank f (book_after 2 calls)
drawn_by calls (Err n) = []

-- the value of an answer that is not refused
made_of : {T E : Type 0} (r : Result T E) (x : T) → Some x ≡ result_ok r → Ok x ≡ r
made_of (Ok y) x e = ap Ok (same_Some x y e)
made_of (Err d) x e = absurd (none-some x (sym e))

told_of : {T E : Type 0} {P : T → Type 0} (r : Result T E) → IsOkAnd r P → (x : T) × (result_ok r ≡ Some x) × P x
told_of (Ok x) p = (x, refl, p)
told_of (Err d) p = absurd p

same_shown : {a b c d e k a' b' c' d' e' k' : List Item} → a ≡ a' → b ≡ b' → c ≡ c' → d ≡ d' → e ≡ e' → k ≡ k'
    → ◌≡◌ {A = Shown} (record { story = record { blank = a; letter = b; locked = c; closed = d; turned = e }; from_blank = k }) (record { story = record { blank = a'; letter = b'; locked = c'; closed = d'; turned = e' }; from_blank = k' })
same_shown p q r s t u = cc

pub returns : goal.returns
returns c =
    let made = made_of c.new.result c.in_ok-face.face c.in_ok-face.ensures.value in
    let face = ap (outcome recorded_meaning) made ∙ c.new.ensures in
    let is = told_of c.over.result c.over.ensures in
    let s = is.0 in
    let shown = is.2 in
    let told = shown.told in
    let blank : s.story.blank ≡ spaces = exactly _ [] _ told.blank ∙ ap (drawn_by []) face in
    let letter : s.story.letter ≡ letter_alone = exactly _ put_letter _ told.letter ∙ ap (drawn_by put_letter) face in
    let over : s.story.locked ≡ locked = exactly _ then_locked _ told.locked ∙ ap (drawn_by then_locked) face in
    let beneath : s.story.closed ≡ closed = exactly _ then_closed _ told.closed ∙ ap (drawn_by then_closed) face in
    let leftward : s.story.turned ≡ turned = exactly _ then_turned _ told.turned ∙ ap (drawn_by then_turned) face in
    c.ok-2.ensures.value ∙ is.1 ∙ ap Some (same_shown blank letter over beneath leftward (shown.same ∙ beneath))
