-- The first of some codes that has a glyph, by the places of those that have none.
use Rattle.std.proofs.Common.{◌≡◌, refl, ℕ, zero, suc, ◌+◌, ◌<◌, Bool, Some, None, ap, ◌∙◌, subst, arith}
use Rattle.faces.specs.Meaning.{FaceMeaning}
use Rattle.placement.specs.Mapped.{along}
use Rattle.placement.specs.Spaces.{first_advance, or_next}

-- codes without glyphs, from the second on
later : (f : FaceMeaning) (code n : ℕ) → ((k : ℕ) → k < suc n → f.glyph (code + k) ≡ None) → (k : ℕ) → k < n → f.glyph (code + 1 + k) ≡ None
later f code n all k q = subst (λ j. f.glyph j ≡ None) (omega arith) (all (suc k) (omega (arith, q)))

pub first_none : (f : FaceMeaning) (h : Bool) (code n : ℕ) → ((k : ℕ) → k < n → f.glyph (code + k) ≡ None) → first_advance f h code n ≡ None
first_none f h code zero all = refl
first_none f h code (suc n) all =
    ap (λ j. or_next f h (f.glyph j) (first_advance f h (code + 1) n)) (omega arith)
    ∙ ap (λ o. or_next f h o (first_advance f h (code + 1) n)) (all 0 (omega arith))
    ∙ first_none f h (code + 1) n (later f code n all)

pub first_found : (f : FaceMeaning) (h : Bool) (code n i g : ℕ) → i < n → f.glyph (code + i) ≡ Some g → ((k : ℕ) → k < i → f.glyph (code + k) ≡ None) → first_advance f h code n ≡ Some (along f h g)
first_found f h code zero i g q e all = elim q [ ]
first_found f h code (suc n) zero g q e all =
    ap (λ j. or_next f h (f.glyph j) (first_advance f h (code + 1) n)) (omega arith)
    ∙ ap (λ o. or_next f h o (first_advance f h (code + 1) n)) e
first_found f h code (suc n) (suc i) g q e all =
    ap (λ j. or_next f h (f.glyph j) (first_advance f h (code + 1) n)) (omega arith)
    ∙ ap (λ o. or_next f h o (first_advance f h (code + 1) n)) (all 0 (omega arith))
    ∙ first_found f h (code + 1) n i g (omega (arith, q)) (subst (λ j. f.glyph j ≡ Some g) (omega arith) e) (later f code i all)
