-- A walk along the marks of a group, kept within bounds from mark to mark.
use Rattle.std.proofs.Common.{◌≡◌, ℕ, ◌+◌, ◌<◌, ◌≤◌, Bool, eqb, List, [], ◌∷◌, length, get_or, set, Some, None, Option, sym, refl, ap, ◌∙◌, arith}
use Rattle.std.proofs.lemmas.Bool.{cond_both, cond-true, cond-false, eq-eqb}
use Rattle.signs.specs.declared.SignRow.{SignRow}
use Rattle.signs.specs.Rows.{class, read_row}
use Rattle.faces.specs.Meaning.{FaceMeaning, Edges, Keeps}
use Rattle.placement.specs.declared.position.Position.{Position}
use Rattle.placement.specs.declared.settings.Settings.{Settings}
use Rattle.placement.specs.declared.walk.Walk.{Walk}
use Rattle.placement.specs.Directions.{is_forward}
use Rattle.placement.specs.Room.{Spans, Light}
use Rattle.placement.specs.Lines.{Cell, cell, cells, positions_of}
use Rattle.placement.specs.OneMark.{gap_of}
use Rattle.placement.specs.Components.{component}
use Rattle.placement.specs.Walks.{Base, Known, ink, passed, to_component, to_run, entered, settled_walk, next, out, walked}
use Rattle.placement.proofs.NearFrom.{NearFrom}
use Rattle.placement.proofs.Nears.{Boxed, near_passed, near_entered, near_settled}
use Rattle.placement.proofs.Scans.{run, going, scan_is, scan_more, scan_all}

pub boxed_by : (f : FaceMeaning) → Keeps f → (g : ℕ) (o : Option Edges) → f.bounds g ≡ o → Boxed o
boxed_by f k g None e = tt
boxed_by f k g (Some m) e = k.boxes g m e

pub gap_few : (f : FaceMeaning) → Keeps f → gap_of f ≤ 1024
gap_few f k = let h = k.em_high in omega arith

module _ {start : ℕ} (f : FaceMeaning) (keeps : Keeps f) (s : Settings) (b : Base) (box : Spans start b.extents) where
  pub near_next : (n : ℕ) (w : Walk) (c : Cell) → NearFrom start n w → Light c.position → NearFrom start (n + 1) (next f s b w c)
  near_next n w c near light =
      cond_both (eqb (class c.row) 0) _ _ (NearFrom start (n + 1))
      (λ h. near_passed n (is_forward s.direction) w c.position near light)
      (λ h. near_settled f s n (entered s b c.row w) (class c.row) (ink (f.bounds c.row.code)) (gap_few f keeps) (boxed_by f keeps c.row.code _ refl) (near_entered s b box n c.row w near))

  -- along a base of one component no other one is come to
  known_component : (m : SignRow) (w : Walk) → Known b w → Known b (to_component s b (component b.row m) w)
  known_component m w known one = ap (λ (v : Walk). v.component) (cond-true _ _ _ (eq-eqb w.component (component b.row m) (known one ∙ sym (cond-false _ _ _ one)))) ∙ known one

  known_run : (k : ℕ) (w : Walk) → Known b w → Known b (to_run k w)
  known_run k w known = cond_both (eqb w.class k) w _ (Known b) (λ h. known) (λ h. known)

  known_settled : (w : Walk) (k : ℕ) (o : Option Edges) → Known b w → Known b (settled_walk f s w k o)
  known_settled w k None known = known
  known_settled w k (Some m) known = known

  known_passed : (fw : Bool) (w : Walk) (p : Position) → Known b w → Known b (passed fw w p)
  known_passed fw w p known = known

  pub known_next : (w : Walk) (c : Cell) → Known b w → Known b (next f s b w c)
  known_next w c known =
      cond_both (eqb (class c.row) 0) _ _ (Known b)
      (λ h. known_passed (is_forward s.direction) w c.position known)
      (λ h. known_settled (entered s b c.row w) (class c.row) (ink (f.bounds c.row.code)) (known_run (class c.row) _ (known_component c.row w known)))

  -- one turn of the loop
  abbrev pub gone : Walk → List SignRow → List Position → ℕ → List Position
  gone w rs ps i = going (next f s b) (out f s b) w rs ps i

  pub gone_more : (w v : Walk) (rs : List SignRow) (ps goal : List Position) (i : ℕ) (r : SignRow) (p q : Position) → i < length rs → i < length ps
      → v ≡ next f s b w (cell (read_row (get_or rs i r)) (get_or ps i p)) → q ≡ (out f s b w (cell (read_row (get_or rs i r)) (get_or ps i p))).position
      → gone w rs ps i ≡ goal → gone v rs (set ps i q) (i + 1) ≡ goal
  gone_more w v rs ps goal i r p q hr hp ev eq inv =
      ap (λ (x : Walk). gone x rs (set ps i q) (i + 1)) ev
      ∙ ap (λ (x : Position). gone (next f s b w (cell (read_row (get_or rs i r)) (get_or ps i p))) rs (set ps i x) (i + 1)) eq
      ∙ scan_more (next f s b) (out f s b) w rs ps i r p hr hp ∙ inv

  run_walked : (w : Walk) (cs : List Cell) → run (next f s b) (out f s b) w cs ≡ walked f s b w cs
  run_walked w [] = refl
  run_walked w (c ∷ cs) = ap (λ l. out f s b w c ∷ l) (run_walked (next f s b w c) cs)

  pub gone_all : (w v : Walk) (rs : List SignRow) (ps before : List Position) (i : ℕ) → length rs ≤ i → length before ≡ length rs
      → gone v rs ps i ≡ gone w rs before 0 → ps ≡ positions_of (walked f s b w (cells rs before))
  gone_all w v rs ps before i h long inv =
      sym (scan_all (next f s b) (out f s b) v rs ps i h) ∙ inv ∙ scan_is (next f s b) (out f s b) w rs before long ∙ ap positions_of (run_walked w (cells rs before))
