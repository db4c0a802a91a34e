-- The walk stays within bounds: no sum of a placement overflows.
use Rattle.std.proofs.Common.{ℕ, ◌+◌, ◌*◌, ◌≤◌, Bool, true, false, eqb, ltb, ℤ, pos, ◌+ℤ◌, ◌-ℤ◌, Some, None, Option, arith}
use Rattle.std.proofs.lemmas.Int.{ints}
use Rattle.std.proofs.lemmas.Bool.{cond_both}
use Rattle.signs.specs.declared.SignRow.{SignRow}
use Rattle.signs.specs.Rows.{class, lig_num_comps, lig_comp, is_lig_base}
use Rattle.faces.specs.Meaning.{FaceMeaning, Edges, IsBox}
use Rattle.placement.specs.declared.classes.Way.{Way}
use Rattle.placement.specs.declared.classes.Way.TheVariants.{Above, Below}
use Rattle.placement.specs.declared.classes.Align.{Align}
use Rattle.placement.specs.declared.classes.Align.TheVariants.{AtLeft, AtRight, OnLeft, OnRight, Centred}
use Rattle.placement.specs.declared.direction.Direction.{Direction}
use Rattle.placement.specs.declared.extents.Extents.{Extents}
use Rattle.placement.specs.declared.position.Position.{Position}
use Rattle.placement.specs.declared.settings.Settings.{Settings}
use Rattle.placement.specs.declared.walk.Walk.{Walk}
use Rattle.placement.specs.Classes.{way, align, is_attached}
use Rattle.placement.specs.Text.{is_text_ltr}
use Rattle.placement.specs.Room.{Within, Room, Spans, Light, Near}
use Rattle.placement.proofs.NearFrom.{NearFrom}
use Rattle.placement.specs.Placing.{left_edge, width_of, x_of, y_of, reached, gap_before, placed}
use Rattle.placement.specs.OneMark.{gap_of}
use Rattle.placement.specs.Components.{component, share}
use Rattle.placement.specs.Walks.{Base, walk_from, passed, to_component, to_run, entered, settled_walk}
use Rattle.placement.proofs.Heights.{unlifted_within, half_sunk_within}
use Rattle.placement.proofs.Belonging.{components_few}
use Rattle.placement.proofs.Shares.{mul_within, quot_within, leftward_within}

pub wider : (n k : ℕ) (z : ℤ) → n ≤ k → Within n z → Within k z
wider n k z h a = (omega (arith, ints), omega (arith, ints))

spans_wider : (n k : ℕ) (e : Extents) → n ≤ k → Spans n e → Spans k e
spans_wider n k e h a = record { left = a.left; width = a.width; bottom = wider n k _ h a.bottom; top = wider n k _ h a.top }

pub near_wider : {start : ℕ} (n k : ℕ) (w : Walk) → n ≤ k → NearFrom start n w → NearFrom start k w
near_wider {start} n k w h a =
    record { x = wider (65535 + 65535 * n) (65535 + 65535 * k) _ (omega arith) a.x; y = wider (65535 + 65535 * n) (65535 + 65535 * k) _ (omega arith) a.y; around = a.around; run = spans_wider (start + 66560 * n) (start + 66560 * k) _ (omega arith) a.run }

pub spans_room : (n : ℕ) (e : Extents) → n ≤ 60000000 → Spans n e → Room e
spans_room n e h a = record { left = a.left; width = a.width; bottom = wider n 60000000 _ h a.bottom; top = wider n 60000000 _ h a.top }

pub room_of : (w : Walk) → Near 256 w → Room w.run
room_of w a = spans_room 57072128 w.run (omega arith) a.run

-- one placed mark
gap_small : (g c : ℕ) → g ≤ 1024 → gap_before g c ≤ 1024
gap_small g c h = cond_both (is_attached c) 0 g (λ n. n ≤ 1024) (λ e. omega arith) (λ e. h)

left_edge_near : (run : Extents) (w : ℤ) (a : Align) → Room run → Within 65535 w → Within 1131070 (left_edge run w a)
left_edge_near run w AtLeft r h = (omega (arith, ints, r), omega (arith, ints, r))
left_edge_near run w AtRight r h = (omega (arith, ints, r), omega (arith, ints, r))
left_edge_near run w OnLeft r h = (omega (arith, ints, r), omega (arith, ints, r))
left_edge_near run w OnRight r h = (omega (arith, ints, r), omega (arith, ints, r))
left_edge_near run w Centred r h = (omega (arith, ints, r), omega (arith, ints, r))

module _ (run : Extents) (m : Edges) (box : IsBox m) where
  width_near : Within 65535 (width_of m)
  width_near =
      let l = box.left in
      let r = box.right in
      (omega (arith, ints), omega (arith, ints))

  x_near : (a : Align) → Room run → Within 1200000 (x_of run m a)
  x_near a room =
      let e = left_edge_near run (width_of m) a room width_near in
      let l = box.left in
      (omega (arith, ints), omega (arith, ints))

  y_near : (n g : ℕ) (o : Option Way) → Within n run.bottom → Within n run.top → g ≤ 1024 → Within (n + 33792) (y_of run m g o)
  y_near n g (Some Below) hb ht h =
      let t = box.top in
      unlifted_within (run.bottom -ℤ pos g -ℤ m.top) (n + 33792) (omega (arith, ints), omega (arith, ints))
  y_near n g (Some Above) hb ht h =
      let b = box.bottom in
      half_sunk_within (run.top +ℤ pos g -ℤ m.bottom) (n + 33792) (omega (arith, ints), omega (arith, ints))
  y_near n g None hb ht h = (omega (arith, ints), omega (arith, ints))

  reached_spans : (n : ℕ) (y : ℤ) (o : Option Way) → Within (n + 33792) y → Spans n run → Spans (n + 66560) (reached run m y o)
  reached_spans n y (Some Below) h s =
      let b = box.bottom in
      record { left = s.left; width = s.width; bottom = (omega (arith, ints), omega (arith, ints)); top = wider n (n + 66560) _ (omega arith) s.top }
  reached_spans n y (Some Above) h s =
      let t = box.top in
      record { left = s.left; width = s.width; bottom = wider n (n + 66560) _ (omega arith) s.bottom; top = (omega (arith, ints), omega (arith, ints)) }
  reached_spans n y None h s = spans_wider n (n + 66560) _ (omega arith) s

  module _ (gap c : ℕ) (d : Direction) (small : gap ≤ 1024) where
    pub placed_x : Room run → Within 1200000 (placed run m gap c d).x
    placed_x room = x_near (align c d) room

    pub placed_y : Room run → Within 60033792 (placed run m gap c d).y
    placed_y room = y_near 60000000 (gap_before gap c) (way c) room.bottom room.top (gap_small gap c small)

    pub placed_height : (n : ℕ) → Spans n run → Within (n + 33792) (placed run m gap c d).y
    placed_height n s = y_near n (gap_before gap c) (way c) s.bottom s.top (gap_small gap c small)

    pub placed_spans : (n : ℕ) → Spans n run → Spans (n + 66560) (placed run m gap c d).run
    placed_spans n s = reached_spans n _ (way c) (placed_height n s) s

-- the steps of a walk
pub near_passed : {start : ℕ} (n : ℕ) (fw : Bool) (w : Walk) (p : Position) → NearFrom start n w → Light p → NearFrom start (n + 1) (passed fw w p)
near_passed {start} n true w p a l =
    record { x = (omega (arith, ints, a.x, l.x_advance), omega (arith, ints, a.x, l.x_advance)); y = (omega (arith, ints, a.y, l.y_advance), omega (arith, ints, a.y, l.y_advance)); around = a.around; run = spans_wider (start + 66560 * n) (start + 66560 * (n + 1)) _ (omega arith) a.run }
near_passed {start} n false w p a l =
    record { x = (omega (arith, ints, a.x, l.x_advance), omega (arith, ints, a.x, l.x_advance)); y = (omega (arith, ints, a.y, l.y_advance), omega (arith, ints, a.y, l.y_advance)); around = a.around; run = spans_wider (start + 66560 * n) (start + 66560 * (n + 1)) _ (omega arith) a.run }

component_small : (base m : SignRow) → component base m ≤ 15
component_small base m =
    let few = components_few base in
    cond_both (ltb 1 (lig_num_comps base)) _ 0 (λ n. n ≤ 15)
    (λ h. cond_both _ (lig_num_comps base) (lig_comp m) (λ n. n ≤ 15) (λ e. few) (λ e. cond_both (is_lig_base m) 0 _ (λ n. n ≤ 15) (λ i. omega arith) (λ i. omega arith)))
    (λ h. omega arith)

share_spans : {start : ℕ} (ltr : Bool) (n k : ℕ) (e : Extents) → n ≤ 15 → k ≤ 15 → Spans start e → Spans start (share ltr n k e)
share_spans ltr n k e hn hk s =
    record { left = wider 983025 1000000 _ (omega arith) (quot_within 983025 _ n (mul_within 15 65535 _ _ (leftward_within ltr n k hn hk) s.width)); width = quot_within 65535 _ n s.width; bottom = s.bottom; top = s.top }

module _ {start : ℕ} (s : Settings) (b : Base) (box : Spans start b.extents) (n : ℕ) where
  near_component : (k : ℕ) (w : Walk) → k ≤ 15 → NearFrom start n w → NearFrom start n (to_component s b k w)
  near_component k w hk a =
      cond_both (eqb w.component k) w _ (NearFrom start n) (λ h. a)
      (λ h. record { x = a.x; y = a.y; around = share_spans (is_text_ltr s) (lig_num_comps b.row) k b.extents (components_few b.row) hk box; run = a.run })

  near_run : (c : ℕ) (w : Walk) → NearFrom start n w → NearFrom start n (to_run c w)
  near_run c w a =
      cond_both (eqb w.class c) w _ (NearFrom start n) (λ h. a)
      (λ h. record { x = a.x; y = a.y; around = a.around; run = spans_wider start (start + 66560 * n) _ (omega arith) a.around })

  pub near_entered : (m : SignRow) (w : Walk) → NearFrom start n w → NearFrom start n (entered s b m w)
  near_entered m w a = near_run (class m) _ (near_component (component b.row m) w (component_small b.row m) a)

-- the box of a mark, where it has one
abbrev pub Boxed : Option Edges → Type 0
Boxed None = Unit {0}
Boxed (Some m) = IsBox m

pub near_settled : {start : ℕ} (f : FaceMeaning) (s : Settings) (n : ℕ) (w : Walk) (c : ℕ) (o : Option Edges) → gap_of f ≤ 1024 → Boxed o → NearFrom start n w → NearFrom start (n + 1) (settled_walk f s w c o)
near_settled f s n w c None g b a = near_wider n (n + 1) w (omega arith) a
near_settled {start} f s n w c (Some m) g b a =
    let z = near_wider n (n + 1) w (omega arith) a in
    record { x = z.x; y = z.y; around = z.around; run = spans_wider (start + 66560 * n + 66560) (start + 66560 * (n + 1)) _ (omega arith) (placed_spans w.run m b (gap_of f) c s.direction g (start + 66560 * n) a.run) }

-- the walk that a base begins
pub near_start : {start : ℕ} (fw : Bool) (p : Position) (e : Extents) → Light p → Spans start e → NearFrom start 0 (walk_from fw p e)
near_start {start} true p e l b = record { x = (omega (arith, ints, l.x_advance), omega (arith, ints, l.x_advance)); y = (omega (arith, ints, l.y_advance), omega (arith, ints, l.y_advance)); around = b; run = spans_wider start (start + 66560 * 0) e (omega arith) b }
near_start {start} false p e l b = record { x = (omega (arith, ints), omega (arith, ints)); y = (omega (arith, ints), omega (arith, ints)); around = b; run = spans_wider start (start + 66560 * 0) e (omega arith) b }
