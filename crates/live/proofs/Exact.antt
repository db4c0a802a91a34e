-- Two items that keep the promise of a look are the book drawn from blank.
use Rattle.std.proofs.Common.{◌≡◌, ℕ, Bool, false, List, [], ◌∷◌, sym, ap, ◌∙◌, arith}
use Rattle.std.proofs.lemmas.List.{take_all}
use Rattle.faces.specs.Meaning.{FaceMeaning}
use Rattle.placement.specs.declared.Direction.{Direction}
use Rattle.placement.specs.declared.Direction.TheVariants.{LeftToRight}
use Rattle.placement.specs.declared.Settings.{Settings}
use Rattle.drawings.specs.declared.Item.{Item}
use Rattle.legends.specs.declared.Call.{Call}
use Rattle.legends.specs.Book.{plain, book_after}
use Rattle.legends.specs.Promise.{from_blank}
use Rattle.incident.specs.Story.{Seen, letter_sign, bar_beneath, then_closed}

same_settings : {d e : Direction} {s t : ℕ} {a b : Bool} → d ≡ e → s ≡ t → a ≡ b → ◌≡◌ {A = Settings} (record { direction = d; script = s; adjust = a }) (record { direction = e; script = t; adjust = b })
same_settings p q r = cc

pub exactly : (f : FaceMeaning) (calls : List Call) (items : List Item) → Seen f calls items → items ≡ from_blank f (book_after 2 calls)
exactly f calls items s = let l = s.two in sym (take_all 2 items (omega arith)) ∙ s.look.exact

-- the gate's end drawn from blank under the settings that a type's default gives
pub by_default : (f : FaceMeaning) (s : Settings) (items : List Item) → (s.direction ≡ LeftToRight) × ((s.script ≡ 0) × (s.adjust ≡ false))
    → items ≡ from_blank f (record { signs = letter_sign ∷ bar_beneath ∷ []; settings = s }) → items ≡ from_blank f (book_after 2 then_closed)
by_default f s items e drawn =
    let plainly : s ≡ plain = same_settings e.0 e.1.0 e.1.1 in
    drawn ∙ ap (λ (t : Settings). from_blank f (record { signs = letter_sign ∷ bar_beneath ∷ []; settings = t })) plainly
