-- A line around one of its groups.
use Rattle.std.proofs.Common.{◌≡◌, ℕ, suc, Bool, true, false, not, ◌&&◌, eqb, List, [], ◌∷◌, ◌++◌, map, length, ℤ, pos, ◌+ℤ◌, Some, None, Option, sym, refl, ap, ◌∙◌, ⊎_elim, arith}
use Rattle.std.proofs.lemmas.List.{map-append}
use Rattle.std.proofs.lemmas.Int.{ints}
use Rattle.std.proofs.lemmas.Bool.{cases_Bool, cond_both}
use Rattle.signs.specs.declared.SignRow.{SignRow}
use Rattle.signs.specs.Rows.{is_space, is_ligated, space_type}
use Rattle.signs.specs.Reclassing.{reclassed}
use Rattle.faces.specs.Meaning.{FaceMeaning, Edges}
use Rattle.placement.specs.declared.Position.{Position}
use Rattle.placement.specs.declared.Settings.{Settings}
use Rattle.placement.specs.declared.walk.Walk.{Walk}
use Rattle.placement.specs.Directions.{is_forward, is_horizontal}
use Rattle.placement.specs.Lines.{Cell}
use Rattle.placement.specs.Mapped.{map_row, map_position}
use Rattle.placement.specs.Spaces.{halved_along, own_advance, respaced, space_position, with_own}
use Rattle.placement.specs.Walks.{Base, base_at, corrected, start, settled, next, out, walked}
use Rattle.placement.specs.Placements.{Leading, Along, opened, out_by, next_by, flow, placed_line}
use Rattle.placement.specs.Route.{cell_of, route}
use Rattle.placement.specs.ByGroups.{LinesStand}
use Rattle.looks.specs.Signs.{is_mark_row, row_class}
use Rattle.looks.specs.Groups.{AreMarks}
use Rattle.looks.specs.Measured.{measure, measure_base}
use Rattle.looks.proofs.Pens.{sum_x, sum_y}
use Rattle.looks.proofs.Walks.{step, after, next_zero, next_xy, out_zero, out_other}
use Rattle.looks.proofs.Runs.{into}

-- a mapped and spaced sign has no offsets
abbrev NoOffsets : Position → Type 0
NoOffsets p = (p.x_offset ≡ pos 0) × (p.y_offset ≡ pos 0)

own_still : (h : Bool) (o : Option ℤ) (p : Position) → NoOffsets p → NoOffsets (with_own h o p)
own_still h None p n = n
own_still true (Some a) p n = n
own_still false (Some a) p n = n

halved_still : (h : Bool) (p : Position) → NoOffsets p → NoOffsets (halved_along h p)
halved_still true p n = n
halved_still false p n = n

mapped_still : (f : FaceMeaning) (h : Bool) (r : SignRow) → NoOffsets (map_position f h r)
mapped_still f true r = (refl, refl)
mapped_still f false r = (refl, refl)

spaced_still : (f : FaceMeaning) (h : Bool) (r q : SignRow) → NoOffsets (space_position f h q (map_position f h r))
spaced_still f h r q =
    let n = mapped_still f h r in
    cond_both (is_space q && not (is_ligated q)) (respaced f h (space_type q) (map_position f h r)) (map_position f h r) NoOffsets
    (λ _. cond_both (eqb (space_type q) 21) _ _ NoOffsets (λ _. halved_still h _ n) (λ _. own_still h (own_advance f h (space_type q)) _ n))
    (λ _. n)

pub no_offsets : (f : FaceMeaning) (s : Settings) (r : SignRow) → ((cell_of f s r).position.x_offset ≡ pos 0) × ((cell_of f s r).position.y_offset ≡ pos 0)
no_offsets f s r = spaced_still f (is_horizontal s.direction) (reclassed r) (map_row f (reclassed r))

module _ (f : FaceMeaning) (s : Settings) where
  pub walked_length : (b : Base) (w : Walk) (cs : List Cell) → length (walked f s b w cs) ≡ length cs
  walked_length b w [] = refl
  walked_length b w (c ∷ cs) = ap suc (walked_length b (next f s b w c) cs)

  -- the marks of a measured base
  flow_marks : (b : Base) (w : Walk) (ms : List SignRow) (cs : List Cell) → AreMarks ms → flow f s (Along b w) (map (cell_of f s) ms ++ cs) ≡ walked f s b w (map (cell_of f s) ms) ++ flow f s (Along b (after f s b w ms)) cs
  flow_marks b w [] cs h = refl
  flow_marks b w (m ∷ ms) cs h =
      ap (λ t. out_by f s t (Along b w) (cell_of f s m) ∷ flow f s (next_by f s t (Along b w) (cell_of f s m)) (map (cell_of f s) ms ++ cs)) h.0
      ∙ ap (λ l. out f s b w (cell_of f s m) ∷ l) (flow_marks b (step f s b w m) ms cs h.1)

  -- a walk in two parts
  pub after_append : (b : Base) (ms ns : List SignRow) (w : Walk) → after f s b w (ms ++ ns) ≡ after f s b (after f s b w ms) ns
  after_append b [] ns w = refl
  after_append b (m ∷ ms) ns w = after_append b ms ns (step f s b w m)

  -- the correction is what the pen has gone, or has yet to go
  corrected_none : (t : Bool) (z : ℤ) → z ≡ corrected t z (pos 0)
  corrected_none true z = omega (arith, ints)
  corrected_none false z = omega (arith, ints)

  corrected_more : (t : Bool) (z a b : ℤ) → corrected t (corrected t z a) b ≡ corrected t z (a +ℤ b)
  corrected_more true z a b = omega (arith, ints)
  corrected_more false z a b = omega (arith, ints)

  settled_stays : (w : Walk) (c : ℕ) (o : Option Edges) (p : Position) → ((settled f s w c o p).x_advance ≡ pos 0) × ((settled f s w c o p).y_advance ≡ pos 0)
  settled_stays w c None p = (refl, refl)
  settled_stays w c (Some m) p = (refl, refl)

  pub out_stays : (b : Base) (w : Walk) (m : SignRow) → eqb (row_class m) 0 ≡ false → ((out f s b w (cell_of f s m)).position.x_advance ≡ pos 0) × ((out f s b w (cell_of f s m)).position.y_advance ≡ pos 0)
  out_stays b w m h =
      let e = out_other f s b w (cell_of f s m) h in
      let k = settled_stays (into f s b w m) (row_class m) (measure f m) (cell_of f s m).position in
      (ap (λ p. p.x_advance) e ∙ k.0, ap (λ p. p.y_advance) e ∙ k.1)

  pub correction : (b : Base) (ms : List SignRow) (w : Walk) → ((after f s b w ms).x ≡ corrected (is_forward s.direction) w.x (sum_x (walked f s b w (map (cell_of f s) ms)))) × ((after f s b w ms).y ≡ corrected (is_forward s.direction) w.y (sum_y (walked f s b w (map (cell_of f s) ms))))
  correction b [] w = (corrected_none (is_forward s.direction) w.x, corrected_none (is_forward s.direction) w.y)
  correction b (m ∷ ms) w =
      let t : Bool = is_forward s.direction in
      let h = correction b ms (step f s b w m) in
      let p : Position = (cell_of f s m).position in
      let rest : List Cell = walked f s b (step f s b w m) (map (cell_of f s) ms) in
      let o : Cell = out f s b w (cell_of f s m) in
      ⊎_elim
      (λ q. let e = next_zero f s b w (cell_of f s m) q in
      let k = out_zero f s b w (cell_of f s m) q in (
        h.0 ∙ ap (λ v. corrected t v.x (sum_x rest)) e ∙ corrected_more t w.x p.x_advance (sum_x rest) ∙ ap (λ c. corrected t w.x (c.position.x_advance +ℤ sum_x rest)) (sym k),
        h.1 ∙ ap (λ v. corrected t v.y (sum_y rest)) e ∙ corrected_more t w.y p.y_advance (sum_y rest) ∙ ap (λ c. corrected t w.y (c.position.y_advance +ℤ sum_y rest)) (sym k),
      ))
      (λ q. let e = next_xy f s b w (cell_of f s m) q in
      let k = out_stays b w m q in
      let zx : sum_x rest ≡ o.position.x_advance +ℤ sum_x rest = omega (arith, ints, k.0) in
      let zy : sum_y rest ≡ o.position.y_advance +ℤ sum_y rest = omega (arith, ints, k.1) in
      (h.0 ∙ ap (λ x. corrected t x (sum_x rest)) e.0 ∙ ap (corrected t w.x) zx, h.1 ∙ ap (λ y. corrected t y (sum_y rest)) e.1 ∙ ap (corrected t w.y) zy))
      (cases_Bool (eqb (row_class m) 0))

  -- a line, cut at a base and at one of its marks
  module _ (base : SignRow) (box : Edges) (hb : measure_base f base ≡ Some box) where
    abbrev pub the_base : Base
    the_base = base_at f (cell_of f s base) box

    abbrev pub the_start : Walk
    the_start = start s (cell_of f s base) the_base

    abbrev pub inner : List SignRow → List Cell
    inner marks = walked f s the_base the_start (map (cell_of f s) marks)

    abbrev pub shown : List SignRow → SignRow → Cell
    shown marks mark = out f s the_base (after f s the_base the_start marks) (cell_of f s mark)

    abbrev pub others : List SignRow → SignRow → List SignRow → List Cell
    others marks mark rest = flow f s (Along the_base (next f s the_base (after f s the_base the_start marks) (cell_of f s mark))) (map (cell_of f s) rest)

    pub route_cut : LinesStand → (before marks : List SignRow) (mark : SignRow) (rest : List SignRow) → is_mark_row base ≡ false → AreMarks marks → is_mark_row mark ≡ true
        → route f s (before ++ base ∷ (marks ++ mark ∷ rest)) ≡ placed_line f s (map (cell_of f s) before) ++ cell_of f s base ∷ (inner marks ++ shown marks mark ∷ others marks mark rest)
    route_cut lines before marks mark rest hbase hmarks hmark =
        let cell : SignRow → Cell = cell_of f s in
        let a : List Cell = map cell rest in
        let ys : List Cell = map cell marks ++ cell mark ∷ a in
        let w : Walk = after f s the_base the_start marks in
        let e1 : map cell (before ++ base ∷ (marks ++ mark ∷ rest)) ≡ map cell before ++ cell base ∷ ys = map-append cell before (base ∷ (marks ++ mark ∷ rest)) ∙ ap (λ l. map cell before ++ cell base ∷ l) (map-append cell marks (mark ∷ rest)) in
        let e2 : placed_line f s (cell base ∷ ys) ≡ cell base ∷ flow f s (Along the_base the_start) ys = ap (λ t. out_by f s t Leading (cell base) ∷ flow f s (next_by f s t Leading (cell base)) ys) hbase ∙ ap (λ o. cell base ∷ flow f s (opened f s (cell base) o) ys) hb in
        let e3 : flow f s (Along the_base w) (cell mark ∷ a) ≡ shown marks mark ∷ others marks mark rest = ap (λ t. out_by f s t (Along the_base w) (cell mark) ∷ flow f s (next_by f s t (Along the_base w) (cell mark)) a) hmark in
        let e4 : flow f s (Along the_base the_start) ys ≡ inner marks ++ shown marks mark ∷ others marks mark rest = flow_marks the_base the_start marks (cell mark ∷ a) hmarks ∙ ap (λ l. inner marks ++ l) e3 in
        ap (placed_line f s) e1 ∙ lines.cut_lines f s (map cell before) (cell base ∷ ys) hbase ∙ ap (λ l. placed_line f s (map cell before) ++ l) (e2 ∙ ap (λ l. cell base ∷ l) e4)
