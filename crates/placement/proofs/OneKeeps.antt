-- One mark on one base: its place, and what it keeps.
use Rattle.std.proofs.Common.{◌≡◌, ℕ, Bool, true, false, cond, eqb, Some, None, Option, sym, ap, ◌∙◌, subst, arith}
use Rattle.std.proofs.lemmas.Bool.{cond-false}
use Rattle.faces.specs.Meaning.{FaceMeaning, Edges}
use Rattle.placement.specs.declared.direction.Direction.{Direction}
use Rattle.placement.specs.declared.extents.Extents.{Extents}
use Rattle.placement.specs.declared.extents.PlacedMark.{PlacedMark}
use Rattle.placement.specs.Placing.{placed}
use Rattle.placement.specs.Kept.{Kept}
use Rattle.placement.specs.OneMark.{gap_of, base_of, placed_on, one_placed, OneKept}
use Rattle.placement.proofs.Keeping.{placed_marks_keep}

module _ (f : FaceMeaning) (base mark c : ℕ) (d : Direction) where
  measured : (run : Extents) (m : Edges) → base_of f base ≡ Some run → f.bounds mark ≡ Some m → one_placed f base mark c d ≡ cond (eqb c 0) None (Some (placed run m (gap_of f) c d))
  measured run m eb em = ap (λ o. cond (eqb c 0) None (placed_on (gap_of f) c d o (f.bounds mark))) eb ∙ ap (λ o. cond (eqb c 0) None (placed_on (gap_of f) c d (Some run) o)) em

  pub one_placed_lem : (run : Extents) (m : Edges) (p : PlacedMark) → base_of f base ≡ Some run → f.bounds mark ≡ Some m → eqb c 0 ≡ false → p ≡ placed run m (gap_of f) c d → Some p ≡ one_placed f base mark c d
  one_placed_lem run m p eb em ec ep = ap (λ (q : PlacedMark). Some q) ep ∙ sym (measured run m eb em ∙ cond-false _ _ _ ec)

  only : (b : Bool) (p q : PlacedMark) → cond b None (Some q) ≡ Some p → q ≡ p
  only true p q e = let z : ◌≡◌ {A = ℕ} 0 1 = cc in absurd (omega arith)
  only false p q e = cc

  pub one_kept : (r : Option PlacedMark) → r ≡ one_placed f base mark c d → OneKept f base mark c d r
  one_kept r e run m p eb em er =
      subst (Kept run m (gap_of f) c d) (only (eqb c 0) p _ (sym (measured run m eb em) ∙ sym e ∙ er)) (placed_marks_keep run m (gap_of f) c d)
