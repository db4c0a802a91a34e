-- What a route leaves is within the bounds of a line: no sign has an offset before its line is placed, so a base spans its own
-- box, and 256 marks along it stay below the limits.
use Rattle.std.proofs.Common.{◌≡◌, ℕ, ◌+◌, ◌*◌, ◌≤◌, Bool, true, false, eqb, List, [], ◌∷◌, map, length, ℤ, pos, Some, None, Option, sym, refl, ◌∙◌, subst, arith}
use mathlib.Core.List.{map-map}
use Rattle.std.specs.List.{AllByRecursion}
use Rattle.std.proofs.lemmas.List.{length-map}
use Rattle.std.proofs.lemmas.Int.{ints}
use Rattle.std.proofs.lemmas.Bool.{cond_both}
use Rattle.signs.specs.declared.SignRow.{SignRow}
use Rattle.signs.specs.Rows.{is_mark, class, is_nonspacing_mark}
use Rattle.signs.specs.Reclassing.{reclassed}
use Rattle.faces.specs.Meaning.{FaceMeaning, Edges, Keeps}
use Rattle.placement.specs.declared.position.Position.{Position}
use Rattle.placement.specs.declared.settings.Settings.{Settings}
use Rattle.placement.specs.declared.walk.Walk.{Walk}
use Rattle.placement.specs.Directions.{is_forward}
use Rattle.placement.specs.Room.{Within, Spans, Light, AllLight, AllGlyphs}
use Rattle.placement.specs.Lines.{Cell, positions_of, at}
use Rattle.placement.specs.Mapped.{map_row}
use Rattle.placement.specs.OneMark.{gap_of}
use Rattle.placement.specs.Walks.{Base, base_at, entered, settled, out}
use Rattle.placement.specs.Placements.{Standing, Leading, Bare, Along, less, zeroed, opened, out_by, next_by, flow}
use Rattle.placement.specs.Route.{cell_of}
use Rattle.placement.specs.Bounds.{WithinBounds, BoundsStand}
use Rattle.placement.proofs.NearFrom.{NearFrom}
use Rattle.placement.proofs.Nears.{Boxed, spans_room, near_wider, near_start, near_entered, placed_x, placed_height}
use Rattle.placement.proofs.Along.{boxed_by, gap_few, near_next}
use Rattle.placement.proofs.BoundedLists.{bounded_from, bounded_light}
use Rattle.placement.proofs.Routing.{Unmoved, unmoved_light, spaced_unmoved, routed_glyphs}
use Rattle.placement.proofs.ByGroups.{in_order}

-- a mark after a base without a box goes back by its own advances at most
less_within : (adjust : Bool) (o a : ℤ) → o ≡ pos 0 → Within 65535 a → Within 40000000 (less adjust o a)
less_within true o a e h = (omega (arith, ints), omega (arith, ints))
less_within false o a e h = (omega (arith, ints), omega (arith, ints))

-- a mark that was placed has no advances
placed_light : (x y : ℤ) → Within 40000000 x → Within 40000000 y → Light (at (pos 0) (pos 0) x y)
placed_light x y hx hy =
    let z : Within 65535 (pos 0) = (omega (arith, ints), omega (arith, ints)) in
    record { x_advance = z; y_advance = z; x_offset = hx; y_offset = hy }

abbrev AllUnmoved : List Cell → Type 0
AllUnmoved cs = AllByRecursion (λ (c : Cell). Unmoved c.position) cs

module _ (f : FaceMeaning) (keeps : Keeps f) (s : Settings) where
  -- a base that was not moved spans its own box
  base_spans : (c : Cell) (e : Edges) → f.bounds c.row.code ≡ Some e → Unmoved c.position → Spans 32768 (base_at f c e).extents
  base_spans c e h u =
      let box = keeps.boxes c.row.code e h in
      let b = box.bottom in
      let t = box.top in
      let wide = keeps.across_high c.row.code in
      let y = u.y_offset in
      record { left = (omega (arith, ints), omega (arith, ints)); width = (omega (arith, ints), omega (arith, ints)); bottom = (omega (arith, ints), omega (arith, ints)); top = (omega (arith, ints), omega (arith, ints)) }

  -- a mark goes by its run, which has reached at most 66560 further at each mark, and by the correction of its walk
  settled_light : (w : Walk) (n k : ℕ) (o : Option Edges) (p : Position) → n ≤ 256 → Boxed o → NearFrom 32768 n w → Unmoved p → Light (settled f s w k o p)
  settled_light w n k None p few b near u =
      let x = near.x in
      let y = near.y in
      let ox = u.x_offset in
      let oy = u.y_offset in
      placed_light _ _ (omega (arith, ints), omega (arith, ints)) (omega (arith, ints), omega (arith, ints))
  settled_light w n k (Some m) p few b near u =
      let x = near.x in
      let y = near.y in
      let reach = 32768 + 66560 * n in
      let px = placed_x w.run m b (gap_of f) k s.direction (gap_few f keeps) (spans_room reach w.run (omega arith) near.run) in
      let py = placed_height w.run m b (gap_of f) k s.direction (gap_few f keeps) reach near.run in
      placed_light _ _ (omega (arith, ints), omega (arith, ints)) (omega (arith, ints), omega (arith, ints))

  zeroed_light : (c : Cell) → Unmoved c.position → Light (zeroed s.adjust c).position
  zeroed_light c u =
      cond_both (is_nonspacing_mark c.row) _ c (λ (z : Cell). Light z.position)
      (λ h. placed_light _ _ (less_within s.adjust _ _ u.x_offset u.x_advance) (less_within s.adjust _ _ u.y_offset u.y_advance))
      (λ h. unmoved_light _ u)

  out_light : (b : Base) (w : Walk) (n : ℕ) (c : Cell) → n ≤ 256 → Spans 32768 b.extents → NearFrom 32768 n w → Unmoved c.position → Light (out f s b w c).position
  out_light b w n c few box near u =
      cond_both (eqb (class c.row) 0) c _ (λ (z : Cell). Light z.position) (λ h. unmoved_light _ u)
      (λ h. settled_light (entered s b c.row w) n (class c.row) _ c.position few (boxed_by f keeps c.row.code _ refl) (near_entered s b box n c.row w near) u)

  -- how far a walk has gone after n signs
  abbrev Stays : ℕ → Standing → Type 0
  Stays n Leading = Unit {0}
  Stays n Bare = Unit {0}
  Stays n (Along b w) = Spans 32768 b.extents × NearFrom 32768 n w

  opened_stays : (n : ℕ) (c : Cell) (o : Option Edges) → f.bounds c.row.code ≡ o → Unmoved c.position → Stays n (opened f s c o)
  opened_stays n c None h u = tt
  opened_stays n c (Some e) h u =
      let box = base_spans c e h u in
      (box, near_wider 0 n _ (omega arith) (near_start (is_forward s.direction) c.position _ (unmoved_light _ u) box))

  next_stays : (n : ℕ) (t : Bool) (st : Standing) (c : Cell) → Stays n st → Unmoved c.position → Stays (n + 1) (next_by f s t st c)
  next_stays n false st c stays u = opened_stays (n + 1) c _ refl u
  next_stays n true Leading c stays u = tt
  next_stays n true Bare c stays u = tt
  next_stays n true (Along b w) c stays u = (stays.0, near_next f keeps s b stays.0 n w c stays.1 (unmoved_light _ u))

  by_light : (n : ℕ) (t : Bool) (st : Standing) (c : Cell) → n ≤ 256 → Stays n st → Unmoved c.position → Light (out_by f s t st c).position
  by_light n false st c few stays u = unmoved_light _ u
  by_light n true Leading c few stays u = unmoved_light _ u
  by_light n true Bare c few stays u = zeroed_light c u
  by_light n true (Along b w) c few stays u = out_light b w n c few stays.0 stays.1 u

  flow_light : (n : ℕ) (st : Standing) (cs : List Cell) → n + length cs ≤ 256 → Stays n st → AllUnmoved cs → AllLight (positions_of (flow f s st cs))
  flow_light n st [] few stays u = tt
  flow_light n st (c ∷ cs) few stays u =
      (by_light n (is_mark c.row) st c (omega arith) stays u.0, flow_light (n + 1) _ cs (omega arith) (next_stays n (is_mark c.row) st c stays u.0) u.1)

  cells_unmoved : (rows : List SignRow) → AllUnmoved (map (cell_of f s) rows)
  cells_unmoved [] = tt
  cells_unmoved (r ∷ rows) = (spaced_unmoved f s keeps (reclassed r) (map_row f (reclassed r)), cells_unmoved rows)

within_bounds : WithinBounds
within_bounds f keeps s rows few =
    let long = length-map rows (cell_of f s) in
    let glyphs = subst AllGlyphs (map-map (map_row f) reclassed rows ∙ sym (in_order f s rows)) (routed_glyphs f s keeps rows) in
    bounded_from _ _ glyphs (flow_light f keeps s 0 Leading (map (cell_of f s) rows) (omega arith) tt (cells_unmoved f keeps s rows))

pub bounds_stand : BoundsStand
bounds_stand = record { within_bounds = within_bounds; light = λ rows positions inside. bounded_light rows positions inside }
