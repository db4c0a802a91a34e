-- Where a mark of a measured base is drawn: as far from its base's item as its run says.
use Rattle.std.proofs.Common.{◌≡◌, suc, ◌+◌, Bool, true, false, eqb, List, ◌∷◌, ◌++◌, map, length, ℤ, pos, ◌+ℤ◌, Some, None, Option, sym, refl, ap, ◌∙◌, arith}
use Rattle.std.proofs.lemmas.List.{append_assoc, length-append, length-map}
use Rattle.std.proofs.lemmas.Int.{ints}
use Rattle.signs.specs.declared.SignRow.{SignRow}
use Rattle.faces.specs.Meaning.{FaceMeaning, Edges}
use Rattle.placement.specs.declared.Extents.{Extents}
use Rattle.placement.specs.declared.Settings.{Settings}
use Rattle.placement.specs.declared.walk.Walk.{Walk}
use Rattle.placement.specs.Directions.{is_forward}
use Rattle.placement.specs.Lines.{Cell}
use Rattle.placement.specs.OneMark.{gap_of}
use Rattle.placement.specs.Placing.{placed}
use Rattle.placement.specs.Walks.{Base, began, corrected, settled}
use Rattle.placement.specs.Placements.{placed_line}
use Rattle.placement.specs.Route.{cell_of}
use Rattle.placement.specs.ByGroups.{LinesStand}
use Rattle.looks.specs.Signs.{row_class, row_component}
use Rattle.looks.specs.Groups.{InGroup}
use Rattle.looks.specs.Measured.{measure, measure_base}
use Rattle.looks.specs.Drawing.{Item, look, drawn}
use Rattle.looks.specs.Shown.{item_of}
use Rattle.looks.proofs.Pens.{sum_x, sum_y, sum_x_append, sum_y_append, lead, drawn_at}
use Rattle.looks.proofs.Walks.{after, enter_x, enter_y, out_other}
use Rattle.looks.proofs.Runs.{into}
use Rattle.looks.proofs.Lines.{the_base, the_start, inner, shown, others, no_offsets, route_cut, correction, out_stays, walked_length}

-- the pen cancels out
balance : (t : Bool) (p c x o r i j off st z : ℤ) → i ≡ lead t p (x +ℤ (o +ℤ r)) +ℤ z → j ≡ lead t (p +ℤ (c +ℤ x)) r +ℤ off → off ≡ st +ℤ corrected t (began t c) x → o ≡ pos 0 → z ≡ pos 0 → j ≡ i +ℤ st
balance true p c x o r i j off st z hi hj ho hz h = omega (arith, ints)
balance false p c x o r i j off st z hi hj ho hz h = omega (arith, ints)

module _ (lines : LinesStand) (f : FaceMeaning) (s : Settings) (rows before : List SignRow) (base : SignRow) (marks : List SignRow) (mark : SignRow) (rest : List SignRow) (g : InGroup rows before base marks mark rest) (box : Edges) (hb : measure_base f base ≡ Some box) (nz : eqb (row_class mark) 0 ≡ false) where
  abbrev b : Base
  b = the_base f s base box hb

  abbrev w : Walk
  w = after f s b (the_start f s base box hb) marks

  -- the run's box from which the mark steps
  abbrev pub from : Extents
  from = (into f s b w mark).run

  abbrev pub first : Item
  first = item_of (length before) (look f s rows)

  abbrev pub later : Item
  later = item_of (length before + suc (length marks)) (look f s rows)

  -- how far a mark goes by its box: one without a box has no offsets of its own
  abbrev pub stood_x : Option Edges → ℤ
  stood_x None = pos 0
  stood_x (Some e) = (placed from e (gap_of f) (row_class mark) s.direction).x

  abbrev pub stood_y : Option Edges → ℤ
  stood_y None = pos 0
  stood_y (Some e) = (placed from e (gap_of f) (row_class mark) s.direction).y

  settled_by : (a : Option Edges) → ((settled f s (into f s b w mark) (row_class mark) a (cell_of f s mark).position).x_offset ≡ stood_x a +ℤ (into f s b w mark).x) × ((settled f s (into f s b w mark) (row_class mark) a (cell_of f s mark).position).y_offset ≡ stood_y a +ℤ (into f s b w mark).y)
  settled_by None = (ap (λ z. z +ℤ (into f s b w mark).x) (no_offsets f s mark).0, ap (λ z. z +ℤ (into f s b w mark).y) (no_offsets f s mark).1)
  settled_by (Some e) = (refl, refl)

  pub stands_by : (a : Option Edges) → measure f mark ≡ a → (later.x ≡ first.x +ℤ stood_x a) × (later.y ≡ first.y +ℤ stood_y a)
  stands_by a hm =
      let t : Bool = is_forward s.direction in
      let c : Cell = cell_of f s base in
      let ps : List Cell = placed_line f s (map (cell_of f s) before) in
      let xs : List Cell = inner f s base box hb marks in
      let o : Cell = shown f s base box hb marks mark in
      let rs : List Cell = others f s base box hb marks mark rest in
      let line : look f s rows ≡ drawn s (ps ++ c ∷ (xs ++ o ∷ rs)) = ap (look f s) g.rows_are ∙ ap (drawn s) (route_cut f s base box hb lines before marks mark rest g.base_is g.marks_are g.mark_is) in
      let line2 : look f s rows ≡ drawn s ((ps ++ c ∷ xs) ++ o ∷ rs) = line ∙ ap (drawn s) (sym (append_assoc ps (c ∷ xs) (o ∷ rs))) in
      let lp : length ps ≡ length before = lines.as_long f s before in
      let lx : length xs ≡ length marks = walked_length f s b (the_start f s base box hb) (map (cell_of f s) marks) ∙ length-map marks (cell_of f s) in
      let la = length-append ps (c ∷ xs) in
      let lz : length (ps ++ c ∷ xs) ≡ length before + suc (length marks) = omega arith in
      let ei : item_of (length ps) (drawn s (ps ++ c ∷ (xs ++ o ∷ rs))) ≡ first = ap (λ n. item_of n (drawn s (ps ++ c ∷ (xs ++ o ∷ rs)))) lp ∙ ap (item_of (length before)) (sym line) in
      let ej : item_of (length (ps ++ c ∷ xs)) (drawn s ((ps ++ c ∷ xs) ++ o ∷ rs)) ≡ later = ap (λ n. item_of n (drawn s ((ps ++ c ∷ xs) ++ o ∷ rs))) lz ∙ ap (item_of (length before + suc (length marks))) (sym line2) in
      let hi = drawn_at s ps c (xs ++ o ∷ rs) in
      let hj = drawn_at s (ps ++ c ∷ xs) o rs in
      let oz = out_stays f s b w mark nz in
      let bz = no_offsets f s base in
      let op = out_other f s b w (cell_of f s mark) nz ∙ ap (λ k. settled f s (into f s b w mark) (row_class mark) k (cell_of f s mark).position) hm in
      let by = settled_by a in
      let cor = correction f s b marks (the_start f s base box hb) in
      let offx : o.position.x_offset ≡ stood_x a +ℤ corrected t (began t c.position.x_advance) (sum_x xs) = ap (λ p. p.x_offset) op ∙ by.0 ∙ ap (λ z. stood_x a +ℤ z) (enter_x s b (row_class mark) (row_component base mark) w ∙ cor.0) in
      let offy : o.position.y_offset ≡ stood_y a +ℤ corrected t (began t c.position.y_advance) (sum_y xs) = ap (λ p. p.y_offset) op ∙ by.1 ∙ ap (λ z. stood_y a +ℤ z) (enter_y s b (row_class mark) (row_component base mark) w ∙ cor.1) in
      let ix : first.x ≡ lead t (sum_x ps) (sum_x xs +ℤ (o.position.x_advance +ℤ sum_x rs)) +ℤ c.position.x_offset = sym (ap (λ i. i.x) ei) ∙ hi.x_is ∙ ap (λ z. lead t (sum_x ps) z +ℤ c.position.x_offset) (sum_x_append xs (o ∷ rs)) in
      let iy : first.y ≡ lead t (sum_y ps) (sum_y xs +ℤ (o.position.y_advance +ℤ sum_y rs)) +ℤ c.position.y_offset = sym (ap (λ i. i.y) ei) ∙ hi.y_is ∙ ap (λ z. lead t (sum_y ps) z +ℤ c.position.y_offset) (sum_y_append xs (o ∷ rs)) in
      let jx : later.x ≡ lead t (sum_x ps +ℤ (c.position.x_advance +ℤ sum_x xs)) (sum_x rs) +ℤ o.position.x_offset = sym (ap (λ i. i.x) ej) ∙ hj.x_is ∙ ap (λ z. lead t z (sum_x rs) +ℤ o.position.x_offset) (sum_x_append ps (c ∷ xs)) in
      let jy : later.y ≡ lead t (sum_y ps +ℤ (c.position.y_advance +ℤ sum_y xs)) (sum_y rs) +ℤ o.position.y_offset = sym (ap (λ i. i.y) ej) ∙ hj.y_is ∙ ap (λ z. lead t z (sum_y rs) +ℤ o.position.y_offset) (sum_y_append ps (c ∷ xs)) in
      (balance t _ _ _ _ _ _ _ _ _ _ ix jx offx oz.0 bz.0, balance t _ _ _ _ _ _ _ _ _ _ iy jy offy oz.1 bz.1)

  pub stands : (e : Edges) → measure f mark ≡ Some e → (later.x ≡ first.x +ℤ (placed from e (gap_of f) (row_class mark) s.direction).x) × (later.y ≡ first.y +ℤ (placed from e (gap_of f) (row_class mark) s.direction).y)
  stands e hm = stands_by (Some e) hm
