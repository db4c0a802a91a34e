-- Along a run: from the edge that it starts from to a later mark.
use Rattle.std.proofs.Common.{◌≡◌, ℕ, Bool, true, false, cond, ◌&&◌, ◌||◌, eqb, List, [], ◌∷◌, ℤ, pos, ◌+ℤ◌, ◌≤ℤ◌, Some, None, Option, sym, refl, ap, ◌∙◌, subst, ⊎_elim, arith}
use Rattle.std.proofs.lemmas.Int.{ints}
use Rattle.std.proofs.lemmas.Bool.{cases_Bool, eqb-true, and_from, and_left, and_right, and_parts, cond-true, cond-false}
use Rattle.std.proofs.lemmas.Bool.Decides.{nat_tests}
use Rattle.signs.specs.declared.SignRow.{SignRow}
use Rattle.faces.specs.Meaning.{FaceMeaning, Edges}
use Rattle.placement.specs.declared.Settings.{Settings}
use Rattle.placement.specs.declared.classes.Way.{Way}
use Rattle.placement.specs.declared.walk.Walk.{Walk}
use Rattle.placement.specs.Classes.{way}
use Rattle.placement.specs.Kept.{PlacedMarksKeep}
use Rattle.placement.specs.OneMark.{gap_of}
use Rattle.placement.specs.Placing.{placed}
use Rattle.placement.specs.Walks.{Base, settled_walk}
use Rattle.placement.specs.Route.{cell_of}
use Rattle.looks.specs.Signs.{row_class, row_component}
use Rattle.looks.specs.Measured.{measure}
use Rattle.looks.specs.Runs.{alike, within_run, same_run}
use Rattle.looks.specs.Steps.{stepped_to, gap_if, height_if, gaps, heights}
use Rattle.looks.proofs.Edges.{front, near, far, tall, clears, grows}
use Rattle.looks.proofs.Walks.{enter, enter_front, Level, here, step, after, next_zero, next_other, next_component, next_class, next_level}

pub way_zero : (c : ℕ) (d : Way) → way c ≡ Some d → eqb c 0 ≡ false
way_zero c d h =
    ⊎_elim
    (λ t. let e : c ≡ 0 = eqb-true _ _ t in
    let n : None ≡ Some d = ap way (sym e) ∙ h in
    let z : ◌≡◌ {A = ℕ} 0 1 = cc in
    absurd (omega arith))
    (λ q. q)
    (cases_Bool (eqb c 0))

other_class : (c z : ℕ) → eqb c 0 ≡ true → eqb z 0 ≡ false → eqb c z ≡ false
other_class c z h n = grind (arith, nat_tests)

module _ (f : FaceMeaning) (s : Settings) (b : Base) where
  -- the walk as it enters the run of a mark
  abbrev pub into : Walk → SignRow → Walk
  into w m = enter s b (row_class m) (row_component b.row m) w

  -- how far a mark goes up from there
  abbrev pub up : Walk → SignRow → Edges → ℤ
  up w m e = (placed (into w m).run e (gap_of f) (row_class m) s.direction).y

  step_settled : (w : Walk) (m : SignRow) (o : Option Edges) → eqb (row_class m) 0 ≡ false → measure f m ≡ o → step f s b w m ≡ settled_walk f s (into w m) (row_class m) o
  step_settled w m o h eo = next_other f s b w (cell_of f s m) h ∙ ap (settled_walk f s (into w m) (row_class m)) eo

  -- the edge that a measured mark leaves to its run
  pub step_far : PlacedMarksKeep → (d : Way) (w : Walk) (m : SignRow) (e : Edges) → way (row_class m) ≡ Some d → measure f m ≡ Some e → front d (step f s b w m).run ≡ far d (up w m e) e
  step_far keep d w m e hm eo =
      ap (λ u. front d u.run) (step_settled w m (Some e) (way_zero (row_class m) d hm) eo)
      ∙ grows keep (gap_of f) (row_class m) s.direction (into w m).run e d hm

module _ (f : FaceMeaning) (s : Settings) (b : Base) (z : SignRow) (box : Edges) (d : Way) (hz : way (row_class z) ≡ Some d) where
  nz : eqb (row_class z) 0 ≡ false
  nz = way_zero (row_class z) d hz

  abbrev here_z : Walk → Bool
  here_z w = here s b (row_class z) (row_component b.row z) w

  -- the edge from which the run of z goes on, with the marks ms to come before z
  abbrev pub edge : Walk → List SignRow → ℤ
  edge w ms = cond (within_run b.row z ms && here_z w) (front d w.run) (front d b.extents)

  abbrev pub reached : Walk → ℤ
  reached w = near d (up f s b w z box) box

  Stepping : Walk → SignRow → List SignRow → Option Edges → Type 0
  Stepping w m ms o = (edge w (m ∷ ms) +ℤ pos (gap_if f (row_class m) o) +ℤ height_if o) ≤ℤ edge (step f s b w m) ms

  -- a mark that is not of the run of z
  same_edge : (w : Walk) (m : SignRow) (ms : List SignRow) → same_run b.row m ms z ≡ false → edge w (m ∷ ms) ≡ edge (step f s b w m) ms → Stepping w m ms (stepped_to f b.row m ms z)
  unfolding Stepping
  same_edge w m ms h e =
      subst (λ o. (edge w (m ∷ ms) +ℤ pos (gap_if f (row_class m) o) +ℤ height_if o) ≤ℤ edge (step f s b w m) ms) (sym (cond-false (same_run b.row m ms z) _ _ h)) (omega (arith, ints))

  stepping_zero : (w : Walk) (m : SignRow) (ms : List SignRow) → eqb (row_class m) 0 ≡ true → Stepping w m ms (stepped_to f b.row m ms z)
  stepping_zero w m ms h =
      let al : alike b.row m z ≡ false = and_left _ _ (other_class (row_class m) (row_class z) h nz) in
      let wi : within_run b.row z (m ∷ ms) ≡ within_run b.row z ms = ap (λ t. (t || alike b.row m z) && within_run b.row z ms) h in
      let e : edge w (m ∷ ms) ≡ edge (step f s b w m) ms = ap (λ t. cond (t && here_z w) (front d w.run) (front d b.extents)) wi ∙ sym (ap (λ v. edge v ms) (next_zero f s b w (cell_of f s m) h)) in
      same_edge w m ms (and_left _ _ al) e

  pub stepped_here : (w : Walk) (m : SignRow) → eqb (row_class m) 0 ≡ false → here_z (step f s b w m) ≡ alike b.row m z
  stepped_here w m h =
      ap (λ c. eqb c (row_class z) && eqb (step f s b w m).component (row_component b.row z)) (next_class f s b w (cell_of f s m) h)
      ∙ ap (λ k. eqb (row_class m) (row_class z) && eqb k (row_component b.row z)) (next_component f s b w (cell_of f s m) h)

  stepping_other : (w : Walk) (m : SignRow) (ms : List SignRow) → eqb (row_class m) 0 ≡ false → alike b.row m z ≡ false → Stepping w m ms (stepped_to f b.row m ms z)
  stepping_other w m ms h al =
      let wi : within_run b.row z (m ∷ ms) ≡ false = ap (λ t. (t || alike b.row m z) && within_run b.row z ms) h ∙ ap (λ t. t && within_run b.row z ms) al in
      let e1 : edge w (m ∷ ms) ≡ front d b.extents = cond-false _ _ _ (and_left _ _ wi) in
      let e2 : edge (step f s b w m) ms ≡ front d b.extents = cond-false _ _ _ (and_right _ _ (stepped_here w m h ∙ al)) in
      same_edge w m ms (and_left _ _ al) (e1 ∙ sym e2)

  -- a mark of the run of z: it goes on from the edge, and leaves its own far edge
  module _ (w : Walk) (m : SignRow) (ms : List SignRow) (l : Level s b d w) (h : eqb (row_class m) 0 ≡ false) (al : alike b.row m z ≡ true) (t : within_run b.row z ms ≡ true) where
    abbrev same : (eqb (row_class m) (row_class z) ≡ true) × (eqb (row_component b.row m) (row_component b.row z) ≡ true)
    same = and_parts (eqb (row_class m) (row_class z)) (eqb (row_component b.row m) (row_component b.row z)) al

    same_class : row_class m ≡ row_class z
    same_class = eqb-true _ _ same.0

    edge_before : edge w (m ∷ ms) ≡ front d (into f s b w m).run
    edge_before =
        let wi : within_run b.row z (m ∷ ms) ≡ true = ap (λ t. (t || alike b.row m z) && within_run b.row z ms) h ∙ ap (λ t. t && within_run b.row z ms) al ∙ t in
        let e : here s b (row_class m) (row_component b.row m) w ≡ here_z w = ap (λ c. here s b c (row_component b.row m) w) same_class ∙ ap (λ k. here s b (row_class z) k w) (eqb-true _ _ same.1) in
        ap (λ t. cond (t && here_z w) (front d w.run) (front d b.extents)) wi
        ∙ sym (enter_front s b (row_class m) (row_component b.row m) w d h l ∙ ap (λ t. cond t (front d w.run) (front d b.extents)) e)

    edge_after : edge (step f s b w m) ms ≡ front d (step f s b w m).run
    edge_after = cond-true _ _ _ (and_from _ _ t (stepped_here w m h ∙ al))

    stepping_within : PlacedMarksKeep → (o : Option Edges) → measure f m ≡ o → Stepping w m ms o
    unfolding Stepping
    stepping_within keep None eo =
        let e = ap (λ u. front d u.run) (step_settled f s b w m None h eo) in
        omega (arith, ints, edge_before, edge_after)
    stepping_within keep (Some e) eo =
        let hm : way (row_class m) ≡ Some d = ap way same_class ∙ hz in
        let k = step_far f s b keep d w m e hm eo in
        let g = clears keep (gap_of f) (row_class m) s.direction (into f s b w m).run e d hm in
        omega (arith, ints, edge_before, edge_after, tall d (up f s b w m e) e)

  stepping_run : PlacedMarksKeep → (w : Walk) (m : SignRow) (ms : List SignRow) → Level s b d w → eqb (row_class m) 0 ≡ false → alike b.row m z ≡ true → Stepping w m ms (stepped_to f b.row m ms z)
  stepping_run keep w m ms l h al =
      let wi : within_run b.row z (m ∷ ms) ≡ within_run b.row z ms = ap (λ t. (t || alike b.row m z) && within_run b.row z ms) h ∙ ap (λ t. t && within_run b.row z ms) al in
      ⊎_elim
      (λ t. subst (Stepping w m ms) (sym (cond-true (same_run b.row m ms z) _ _ (and_from _ _ al t))) (stepping_within w m ms l h al t keep (measure f m) refl))
      (λ t. let e1 : edge w (m ∷ ms) ≡ front d b.extents = cond-false _ _ _ (and_left _ _ (wi ∙ t)) in
      let e2 : edge (step f s b w m) ms ≡ front d b.extents = cond-false _ _ _ (and_left _ _ t) in
      same_edge w m ms (and_right _ _ t) (e1 ∙ sym e2))
      (cases_Bool (within_run b.row z ms))

  stepping : PlacedMarksKeep → (w : Walk) (m : SignRow) (ms : List SignRow) → Level s b d w → Stepping w m ms (stepped_to f b.row m ms z)
  stepping keep w m ms l =
      ⊎_elim
      (λ h. stepping_zero w m ms h)
      (λ h. ⊎_elim (λ al. stepping_run keep w m ms l h al) (λ al. stepping_other w m ms h al) (cases_Bool (alike b.row m z)))
      (cases_Bool (eqb (row_class m) 0))

  -- from any point of the walk, the gaps and the heights up to z fit
  pub reach : PlacedMarksKeep → (ms : List SignRow) (w : Walk) → Level s b d w → (edge w ms +ℤ pos (gaps f b.row ms z) +ℤ heights f b.row ms z) ≤ℤ reached (after f s b w ms)
  unfolding Stepping
  reach keep [] w l =
      let e = enter_front s b (row_class z) (row_component b.row z) w d nz l in
      let h = clears keep (gap_of f) (row_class z) s.direction (into f s b w z).run box d hz in
      omega (arith, ints)
  reach keep (m ∷ ms) w l =
      let k = stepping keep w m ms l in
      let h = reach keep ms (step f s b w m) (next_level f s b w (cell_of f s m) d l) in
      omega (arith, ints)
