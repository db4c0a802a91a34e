-- Along a group: the sides of the run's box are those of the mark's component.
use Rattle.std.proofs.Common.{◌≡◌, ℕ, Bool, true, false, cond, not, ◌&&◌, ◌||◌, eqb, List, [], ◌∷◌, ◌++◌, Some, None, Option, sym, refl, ap, ◌∙◌, subst, ⊎_elim, arith}
use Rattle.std.proofs.lemmas.Bool.{cases_Bool, eqb-true, eq-eqb, and_left, or_parts, or_left, or_right, or_from, not-false, not_from_true, both_ways}
use Rattle.std.proofs.lemmas.Bool.Decides.{nat_tests}
use Rattle.signs.specs.declared.SignRow.{SignRow}
use Rattle.signs.specs.Rows.{lig_num_comps}
use Rattle.faces.specs.Meaning.{FaceMeaning, Edges}
use Rattle.placement.specs.declared.Settings.{Settings}
use Rattle.placement.specs.declared.walk.Walk.{Walk}
use Rattle.placement.specs.Text.{is_text_ltr}
use Rattle.placement.specs.Classes.{way}
use Rattle.placement.specs.OneMark.{gap_of}
use Rattle.placement.specs.Placing.{placed}
use Rattle.placement.specs.Walks.{Base, to_component, settled_walk}
use Rattle.placement.specs.Route.{cell_of}
use Rattle.looks.specs.Signs.{row_class, row_component}
use Rattle.looks.specs.Measured.{measure}
use Rattle.looks.specs.Shares.{Sides, part, belongs, any_belongs}
use Rattle.looks.proofs.Edges.{sides_of, reached_sides}
use Rattle.looks.proofs.Walks.{to_same, to_other, run_same, run_other, run_around, step, after, next_zero, next_other, next_component, next_around}
use Rattle.looks.proofs.Runs.{into}

or_none : (x : Bool) → (x || false) ≡ x
or_none true = refl
or_none false = refl

or_more : (x y z : Bool) → ((x || y) || z) ≡ (x || (y || z))
or_more true y z = refl
or_more false y z = refl

pub any_last : (base : SignRow) (ms : List SignRow) (z : SignRow) → any_belongs base (ms ++ z ∷ []) ≡ (any_belongs base ms || belongs base z)
any_last base [] z = or_none (belongs base z)
any_last base (m ∷ ms) z = ap (λ t. belongs base m || t) (any_last base ms z) ∙ sym (or_more (belongs base m) (any_belongs base ms) (belongs base z))

back : (k : ℕ) → eqb 0 k ≡ false → eqb k 0 ≡ false
back k h = grind (arith, nat_tests)

module _ (f : FaceMeaning) (s : Settings) (b : Base) where
  -- the sides of a component, or of the base while no mark belonged to one
  abbrev pub own : Bool → ℕ → Sides
  own seen k = cond seen (part (is_text_ltr s) (lig_num_comps b.row) k b.extents.width) (sides_of b.extents)

  pub record Holds (w : Walk) (seen : Bool) : Type 0 where
    pub sides : sides_of w.around ≡ own seen w.component
    pub none : seen ≡ false → w.component ≡ 0
    pub run : eqb w.class 0 ≡ false → sides_of w.run ≡ sides_of w.around

  other_sides : (k : ℕ) (w : Walk) → eqb w.component k ≡ false → sides_of (to_component s b k w).around ≡ part (is_text_ltr s) (lig_num_comps b.row) k b.extents.width
  other_sides k w h = rw h

  module _ (m : SignRow) (w : Walk) (seen : Bool) (h : Holds w seen) (nz : eqb (row_class m) 0 ≡ false) where
    abbrev k : ℕ
    k = row_component b.row m

    belongs_by : (t : Bool) → eqb k 0 ≡ t → belongs b.row m ≡ not t
    belongs_by t e = ap (λ u. not u && not (eqb k 0)) nz ∙ ap not e

    to_sides : sides_of (to_component s b k w).around ≡ own (seen || belongs b.row m) k
    to_sides =
        ⊎_elim
        (λ q. let ek : w.component ≡ k = eqb-true _ _ q in
        let same : (seen || belongs b.row m) ≡ seen =
        ⊎_elim
        (λ t. or_left seen (belongs b.row m) t ∙ sym t)
        (λ t. or_from seen (belongs b.row m) t (belongs_by true (eq-eqb k 0 (sym ek ∙ h.none t))) ∙ sym t)
        (cases_Bool seen) in
        ap (λ v. sides_of v.around) (to_same s b k w q) ∙ h.sides ∙ ap (own seen) ek ∙ ap (λ t. own t k) (sym same))
        (λ q. let yes : (seen || belongs b.row m) ≡ true =
        ⊎_elim
        (λ t. or_left seen (belongs b.row m) t)
        (λ t. or_right seen (belongs b.row m) (belongs_by false (back k (ap (λ n. eqb n k) (sym (h.none t)) ∙ q))))
        (cases_Bool seen) in
        other_sides k w q ∙ ap (λ t. own t k) (sym yes))
        (cases_Bool (eqb w.component k))

    pub into_sides : sides_of (into f s b w m).around ≡ own (seen || belongs b.row m) k
    into_sides = ap sides_of (run_around (row_class m) (to_component s b k w)) ∙ to_sides

    pub into_run : sides_of (into f s b w m).run ≡ sides_of (into f s b w m).around
    into_run =
        let c : ℕ = row_class m in
        let v : Walk = to_component s b k w in
        let kept : eqb v.class 0 ≡ false → sides_of v.run ≡ sides_of v.around = λ n.
        ⊎_elim
        (λ q. subst (λ u. sides_of u.run ≡ sides_of u.around) (sym (to_same s b k w q)) (h.run (ap (λ u. eqb u.class 0) (sym (to_same s b k w q)) ∙ n)))
        (λ q. absurd (both_ways (eqb v.class 0) n (eq-eqb _ _ (to_other s b k w q).0)))
        (cases_Bool (eqb w.component k)) in
        ⊎_elim
        (λ q. subst (λ u. sides_of u.run ≡ sides_of u.around) (sym (run_same c v q)) (kept (ap (λ n. eqb n 0) (eqb-true _ _ q) ∙ nz)))
        (λ q. ap sides_of (run_other c v q) ∙ sym (ap sides_of (run_around c v)))
        (cases_Bool (eqb v.class c))

  settled_run : (w : Walk) (c : ℕ) (o : Option Edges) → sides_of (settled_walk f s w c o).run ≡ sides_of w.run
  settled_run w c None = refl
  settled_run w c (Some m) = reached_sides (way c) w.run m (placed w.run m (gap_of f) c s.direction).y

  holds_step : (m : SignRow) (w : Walk) (seen : Bool) → Holds w seen → Holds (step f s b w m) (seen || belongs b.row m)
  holds_step m w seen h =
      ⊎_elim
      (λ q. let n : belongs b.row m ≡ false = and_left _ _ (not_from_true _ q) in
      let e : (seen || belongs b.row m) ≡ seen = ap (λ t. seen || t) n ∙ or_none seen in
      subst (Holds (step f s b w m)) (sym e) (subst (λ v. Holds v seen) (sym (next_zero f s b w (cell_of f s m) q)) (record { sides = h.sides; none = h.none; run = h.run })))
      (λ q. let ea : sides_of (step f s b w m).around ≡ sides_of (into f s b w m).around = ap sides_of (next_around f s b w (cell_of f s m) q) in
      let ek : (step f s b w m).component ≡ row_component b.row m = next_component f s b w (cell_of f s m) q in
      let er : sides_of (step f s b w m).run ≡ sides_of (into f s b w m).run = ap (λ v. sides_of v.run) (next_other f s b w (cell_of f s m) q) ∙ settled_run (into f s b w m) (row_class m) (measure f m) in
      record {
        sides = ea ∙ into_sides m w seen h q ∙ ap (own (seen || belongs b.row m)) (sym ek);
        none = λ t. ek ∙ eqb-true _ _ (not-false _ (ap (λ u. not u && not (eqb (row_component b.row m) 0)) (sym q) ∙ (or_parts seen (belongs b.row m) t).1));
        run = λ _. er ∙ into_run m w seen h q ∙ sym ea;
      })
      (cases_Bool (eqb (row_class m) 0))

  pub holds_after : (ms : List SignRow) (w : Walk) (seen : Bool) → Holds w seen → Holds (after f s b w ms) (seen || any_belongs b.row ms)
  holds_after [] w seen h = subst (Holds w) (sym (or_none seen)) h
  holds_after (m ∷ ms) w seen h =
      subst (Holds (after f s b w (m ∷ ms))) (or_more seen (belongs b.row m) (any_belongs b.row ms)) (holds_after ms (step f s b w m) (seen || belongs b.row m) (holds_step m w seen h))
