-- What one mark of a group does to the walk.
use Rattle.std.proofs.Common.{◌≡◌, ℕ, Bool, true, false, cond, ◌&&◌, eqb, List, [], ◌∷◌, Some, None, Option, sym, refl, ap, ◌∙◌, ⊎_elim, arith}
use Rattle.std.proofs.lemmas.Bool.{cases_Bool, eqb-true, and_from, and_left, and_right, cond-true, cond-false}
use Rattle.std.proofs.lemmas.Bool.Decides.{nat_tests}
use Rattle.signs.specs.declared.SignRow.{SignRow}
use Rattle.signs.specs.Rows.{class, lig_num_comps}
use Rattle.faces.specs.Meaning.{FaceMeaning, Edges}
use Rattle.placement.specs.declared.Settings.{Settings}
use Rattle.placement.specs.declared.classes.Way.{Way}
use Rattle.placement.specs.declared.classes.Way.TheVariants.{Above, Below}
use Rattle.placement.specs.declared.Extents.{Extents}
use Rattle.placement.specs.declared.walk.Walk.{Walk}
use Rattle.placement.specs.Directions.{is_forward}
use Rattle.placement.specs.Text.{is_text_ltr}
use Rattle.placement.specs.Lines.{Cell}
use Rattle.placement.specs.Components.{component, share}
use Rattle.placement.specs.Walks.{Base, ink, passed, to_component, to_run, settled_walk, settled, next, out}
use Rattle.placement.specs.Route.{cell_of}
use Rattle.looks.proofs.Edges.{front}

pub flip : (c : ℕ) → eqb c 0 ≡ false → eqb 0 c ≡ false
flip c h = grind (arith, nat_tests)

-- into a component
module _ (s : Settings) (b : Base) (k : ℕ) (w : Walk) where
  pub to_same : eqb w.component k ≡ true → to_component s b k w ≡ w
  to_same h = rw h

  pub to_other : eqb w.component k ≡ false → ((to_component s b k w).class ≡ 0) × ((to_component s b k w).component ≡ k)
  to_other h = (rw h, rw h)

  pub to_component_lem : (to_component s b k w).component ≡ k
  to_component_lem = ⊎_elim (λ q. ap (λ w. w.component) (to_same q) ∙ eqb-true _ _ q) (λ q. (to_other q).1) (cases_Bool (eqb w.component k))

  pub to_xy : ((to_component s b k w).x ≡ w.x) × ((to_component s b k w).y ≡ w.y)
  to_xy = ⊎_elim (λ q. (rw q, rw q)) (λ q. (rw q, rw q)) (cases_Bool (eqb w.component k))

-- into a run
module _ (c : ℕ) (w : Walk) where
  pub run_same : eqb w.class c ≡ true → to_run c w ≡ w
  run_same h = rw h

  pub run_other : eqb w.class c ≡ false → (to_run c w).run ≡ w.around
  run_other h = rw h

  pub run_around : (to_run c w).around ≡ w.around
  run_around = ⊎_elim (λ q. rw q) (λ q. rw q) (cases_Bool (eqb w.class c))

  pub run_class : (to_run c w).class ≡ c
  run_class = ⊎_elim (λ q. ap (λ w. w.class) (run_same q) ∙ eqb-true _ _ q) (λ q. rw q) (cases_Bool (eqb w.class c))

  pub run_component : (to_run c w).component ≡ w.component
  run_component = ⊎_elim (λ q. rw q) (λ q. rw q) (cases_Bool (eqb w.class c))

  pub run_xy : ((to_run c w).x ≡ w.x) × ((to_run c w).y ≡ w.y)
  run_xy = ⊎_elim (λ q. (rw q, rw q)) (λ q. (rw q, rw q)) (cases_Bool (eqb w.class c))

pub share_front : (d : Way) (ltr : Bool) (n k : ℕ) (e : Extents) → front d (share ltr n k e) ≡ front d e
share_front Above ltr n k e = refl
share_front Below ltr n k e = refl

module _ (s : Settings) (b : Base) where
  -- into the run of a class and a component
  abbrev pub enter : ℕ → ℕ → Walk → Walk
  enter c k w = to_run c (to_component s b k w)

  -- the box around which marks go is as high as the base's
  abbrev pub Level : Way → Walk → Type 0
  Level d w = front d w.around ≡ front d b.extents

  -- whether the walk is in the run of a class and a component
  abbrev pub here : ℕ → ℕ → Walk → Bool
  here c k w = eqb w.class c && eqb w.component k

  module _ (c k : ℕ) (w : Walk) where
    pub enter_class : (enter c k w).class ≡ c
    enter_class = run_class c (to_component s b k w)

    pub enter_component : (enter c k w).component ≡ k
    enter_component = run_component c (to_component s b k w) ∙ to_component_lem s b k w

    pub enter_x : (enter c k w).x ≡ w.x
    enter_x = (run_xy c (to_component s b k w)).0 ∙ (to_xy s b k w).0

    pub enter_y : (enter c k w).y ≡ w.y
    enter_y = (run_xy c (to_component s b k w)).1 ∙ (to_xy s b k w).1

    to_level : (d : Way) → Level d w → Level d (to_component s b k w)
    to_level d l =
        ⊎_elim
        (λ q. ap (λ v. front d v.around) (to_same s b k w q) ∙ l)
        (λ q. rw q (share_front d (is_text_ltr s) (lig_num_comps b.row) k b.extents))
        (cases_Bool (eqb w.component k))

    pub enter_level : (d : Way) → Level d w → Level d (enter c k w)
    enter_level d l = ap (front d) (run_around c (to_component s b k w)) ∙ to_level d l

    -- the edge from which a mark of non-zero class steps
    pub enter_front : (d : Way) → eqb c 0 ≡ false → Level d w → front d (enter c k w).run ≡ cond (here c k w) (front d w.run) (front d b.extents)
    enter_front d nz l =
        let v : Walk = to_component s b k w in
        let new : eqb v.class c ≡ false → front d (enter c k w).run ≡ front d b.extents = λ q. ap (front d) (run_other c v q) ∙ to_level d l in
        ⊎_elim
        (λ p. let e : v ≡ w = to_same s b k w p in
        ⊎_elim
        (λ q. ap (λ u. front d (to_run c u).run) e ∙ ap (λ u. front d u.run) (run_same c w q) ∙ sym (cond-true (here c k w) _ _ (and_from _ _ q p)))
        (λ q. new (ap (λ u. eqb u.class c) e ∙ q) ∙ sym (cond-false (here c k w) _ _ (and_left _ _ q)))
        (cases_Bool (eqb w.class c)))
        (λ p. new (ap (λ n. eqb n c) (to_other s b k w p).0 ∙ flip c nz) ∙ sym (cond-false (here c k w) _ _ (and_right _ _ p)))
        (cases_Bool (eqb w.component k))

-- one step
module _ (f : FaceMeaning) (s : Settings) (b : Base) where
  settled_keeps : (w : Walk) (c : ℕ) (o : Option Edges) → ((settled_walk f s w c o).x ≡ w.x) × ((settled_walk f s w c o).y ≡ w.y) × ((settled_walk f s w c o).component ≡ w.component) × ((settled_walk f s w c o).class ≡ w.class) × ((settled_walk f s w c o).around ≡ w.around)
  settled_keeps w c None = (refl, refl, refl, refl, refl)
  settled_keeps w c (Some m) = (refl, refl, refl, refl, refl)

  module _ (w : Walk) (c : Cell) where
    abbrev n : ℕ
    n = class c.row

    abbrev k : ℕ
    k = component b.row c.row

    abbrev box : Option Edges
    box = ink (f.bounds c.row.code)

    pub next_zero : eqb n 0 ≡ true → next f s b w c ≡ passed (is_forward s.direction) w c.position
    next_zero h = rw h

    pub next_other : eqb n 0 ≡ false → next f s b w c ≡ settled_walk f s (enter s b n k w) n box
    next_other h = rw h

    pub out_zero : eqb n 0 ≡ true → out f s b w c ≡ c
    out_zero h = rw h

    pub out_other : eqb n 0 ≡ false → (out f s b w c).position ≡ settled f s (enter s b n k w) n box c.position
    out_other h = rw h

    pub next_xy : eqb n 0 ≡ false → ((next f s b w c).x ≡ w.x) × ((next f s b w c).y ≡ w.y)
    next_xy h =
        let e = next_other h in
        let kept = settled_keeps (enter s b n k w) n box in
        (ap (λ v. v.x) e ∙ kept.0 ∙ enter_x s b n k w, ap (λ v. v.y) e ∙ kept.1 ∙ enter_y s b n k w)

    pub next_component : eqb n 0 ≡ false → (next f s b w c).component ≡ k
    next_component h = ap (λ v. v.component) (next_other h) ∙ (settled_keeps (enter s b n k w) n box).2 ∙ enter_component s b n k w

    pub next_class : eqb n 0 ≡ false → (next f s b w c).class ≡ n
    next_class h = ap (λ v. v.class) (next_other h) ∙ (settled_keeps (enter s b n k w) n box).3 ∙ enter_class s b n k w

    pub next_around : eqb n 0 ≡ false → (next f s b w c).around ≡ (enter s b n k w).around
    next_around h = ap (λ v. v.around) (next_other h) ∙ (settled_keeps (enter s b n k w) n box).4

    pub next_level : (d : Way) → Level s b d w → Level s b d (next f s b w c)
    next_level d l =
        ⊎_elim
        (λ q. ap (λ v. front d v.around) (next_zero q) ∙ l)
        (λ q. ap (front d) (next_around q) ∙ enter_level s b n k w d l)
        (cases_Bool (eqb n 0))

  abbrev pub step : Walk → SignRow → Walk
  step w m = next f s b w (cell_of f s m)

  -- the walk after some marks
  abbrev pub after : Walk → List SignRow → Walk
  after w [] = w
  after w (m ∷ ms) = after (step w m) ms

  pub level_after : (d : Way) (ms : List SignRow) (w : Walk) → Level s b d w → Level s b d (after w ms)
  level_after d [] w l = l
  level_after d (m ∷ ms) w l = level_after d ms (step w m) (next_level w (cell_of f s m) d l)
