-- The promise of a look.
use Rattle.std.proofs.Common.{◌≡◌, true, false, eqb, List, [], ◌∷◌, ◌++◌, ℤ, pos, ◌+ℤ◌, ◌-ℤ◌, ◌≤ℤ◌, Some, sym, refl, ap, ◌∙◌, subst, arith}
use Rattle.std.specs.List.{AllByRecursion}
use Rattle.std.proofs.lemmas.List.{append_assoc}
use Rattle.std.proofs.lemmas.Int.{ints}
use Rattle.std.proofs.lemmas.Bool.{eqb-true, and_from, and_left, and_right, and_parts, cond-true, cond-false}
use Rattle.signs.specs.declared.SignRow.{SignRow}
use Rattle.faces.specs.Meaning.{FaceMeaning, Edges}
use Rattle.placement.specs.declared.Extents.{Extents}
use Rattle.placement.specs.declared.Settings.{Settings}
use Rattle.placement.specs.declared.classes.Way.{Way}
use Rattle.placement.specs.declared.classes.Way.TheVariants.{Above, Below}
use Rattle.placement.specs.declared.walk.Walk.{Walk}
use Rattle.placement.specs.Classes.{way}
use Rattle.placement.specs.Kept.{Even, PlacedMarksKeep}
use Rattle.placement.specs.OneMark.{gap_of}
use Rattle.placement.specs.Placing.{placed}
use Rattle.placement.specs.Walks.{Base}
use Rattle.placement.specs.Route.{cell_of}
use Rattle.placement.specs.ByGroups.{LinesStand}
use Rattle.looks.specs.Signs.{is_mark_row, row_class, row_component}
use Rattle.looks.specs.Groups.{AreMarks, InGroup, base_place, place_after, mark_place}
use Rattle.looks.specs.Runs.{alike, within_run}
use Rattle.looks.specs.Steps.{gaps, heights}
use Rattle.looks.specs.Shares.{Sides, any_belongs, component_sides}
use Rattle.looks.specs.Drawing.{Item, look}
use Rattle.looks.specs.Shown.{item_of, moved, apart, left_room, right_room}
use Rattle.looks.specs.Promise.{ClearOfBase, ClearOfMarks, InTheMiddle, LooksKeep}
use Rattle.looks.proofs.Edges.{front, near, far, centres, sides_of}
use Rattle.looks.proofs.Walks.{flip, next_level, step, after, level_after}
use Rattle.looks.proofs.Runs.{way_zero, into, up, step_far, edge, reached, stepped_here, reach}
use Rattle.looks.proofs.Parts.{any_last, own, into_sides, into_run, holds_after}
use Rattle.looks.proofs.Lines.{the_base, the_start, no_offsets, after_append}
use Rattle.looks.proofs.Stands.{stands}
use Rattle.looks.proofs.Present.{as_many, in_turn, shows}

-- from edges along the run to drawn boxes
from_base : (d : Way) (e : Extents) (bb mb : Edges) (i j : Item) (y z need : ℤ) → e.top ≡ bb.top +ℤ z → e.bottom ≡ bb.bottom +ℤ z → z ≡ pos 0 → j.y ≡ i.y +ℤ y → (front d e +ℤ need) ≤ℤ near d y mb → need ≤ℤ apart d (moved i bb) (moved j mb)
from_base Above e bb mb i j y z need ht hb hz hj h = omega (arith, ints)
from_base Below e bb mb i j y z need ht hb hz hj h = omega (arith, ints)

from_mark : (d : Way) (ab mb : Edges) (i j k : Item) (ya yz need : ℤ) → j.y ≡ i.y +ℤ ya → k.y ≡ i.y +ℤ yz → (far d ya ab +ℤ need) ≤ℤ near d yz mb → need ≤ℤ apart d (moved j ab) (moved k mb)
from_mark Above ab mb i j k ya yz need hj hk h = omega (arith, ints)
from_mark Below ab mb i j k ya yz need hj hk h = omega (arith, ints)

from_sides : (i j : Item) (r : Sides) (m : Edges) (x : ℤ) → j.x ≡ i.x +ℤ x → Even (x +ℤ m.left -ℤ r.left) ((r.left +ℤ r.width) -ℤ (x +ℤ m.right)) → Even (left_room i r (moved j m)) (right_room i r (moved j m))
from_sides i j r m x hj h = (omega (arith, ints, h.0, h.1), omega (arith, ints, h.0, h.1))

all_front : (P : SignRow → Type 0) (xs ys : List SignRow) → AllByRecursion P (xs ++ ys) → AllByRecursion P xs × AllByRecursion P ys
all_front P [] ys a = (tt, a)
all_front P (x ∷ xs) ys a = let h = all_front P xs ys a.1 in ((a.0, h.0), h.1)

module _ (keep : PlacedMarksKeep) (lines : LinesStand) (f : FaceMeaning) (s : Settings) (rows : List SignRow) where
  clear_of_base : ClearOfBase f s rows (look f s rows)
  clear_of_base c d bb mb hb hm hw =
      let b : Base = the_base f s c.base bb hb in
      let w : Walk = the_start f s c.base bb hb in
      let z : SignRow = c.mark in
      let n : eqb (row_class z) 0 ≡ false = way_zero (row_class z) d hw in
      let h = reach f s b z mb d hw keep c.marks w refl in
      let e : edge f s b z mb d hw w c.marks ≡ front d b.extents = cond-false _ _ _ (and_right (within_run c.base z c.marks) _ (and_left _ _ (flip (row_class z) n))) in
      let st = stands lines f s rows c.before c.base c.marks z c.after c.in_group bb hb n mb hm in
      let need : ℤ = pos (gaps f c.base c.marks z) +ℤ heights f c.base c.marks z in
      let k : (front d b.extents +ℤ need) ≤ℤ reached f s b z mb d hw (after f s b w c.marks) = omega (arith, ints, h, e) in
      from_base d b.extents bb mb (item_of (base_place c) (look f s rows)) (item_of (mark_place c) (look f s rows)) _ _ need refl refl (no_offsets f s c.base).1 st.1 k

  clear_of_marks : ClearOfMarks f s rows (look f s rows)
  clear_of_marks c d bb mb hb hm hw ahead first between ab hs hr ha =
      let b : Base = the_base f s c.base bb hb in
      let w : Walk = the_start f s c.base bb hb in
      let z : SignRow = c.mark in
      let g = c.in_group in
      let run = and_parts (alike c.base first z) (within_run c.base z between) hr in
      let al = and_parts (eqb (row_class first) (row_class z)) (eqb (row_component c.base first) (row_component c.base z)) run.0 in
      let hf : way (row_class first) ≡ Some d = ap way (eqb-true (row_class first) (row_class z) al.0) ∙ hw in
      let n : eqb (row_class z) 0 ≡ false = way_zero (row_class z) d hw in
      let nf : eqb (row_class first) 0 ≡ false = way_zero (row_class first) d hf in
      let v : Walk = after f s b w ahead in
      let aft : after f s b w c.marks ≡ after f s b (step f s b v first) between = ap (after f s b w) hs ∙ after_append f s b ahead (first ∷ between) w in
      let h = reach f s b z mb d hw keep between (step f s b v first) (next_level f s b v (cell_of f s first) d (level_after f s b d ahead w refl)) in
      let e : edge f s b z mb d hw (step f s b v first) between ≡ front d (step f s b v first).run = cond-true _ _ _ (and_from _ _ run.1 (stepped_here f s b z mb d hw v first nf ∙ run.0)) in
      let ya : ℤ = up f s b v first ab in
      let e2 = step_far f s b keep d v first ab hf ha in
      let need : ℤ = pos (gaps f c.base between z) +ℤ heights f c.base between z in
      let k0 : (far d ya ab +ℤ need) ≤ℤ reached f s b z mb d hw (after f s b (step f s b v first) between) = omega (arith, ints, h, e, e2) in
      let k : (far d ya ab +ℤ need) ≤ℤ reached f s b z mb d hw (after f s b w c.marks) = subst (λ u. (far d ya ab +ℤ need) ≤ℤ reached f s b z mb d hw u) (sym aft) k0 in
      let are = all_front (λ m. is_mark_row m ≡ true) ahead (first ∷ between) (subst AreMarks hs g.marks_are) in
      let g2 : InGroup rows c.before c.base ahead first (between ++ z ∷ c.after) = record {
        rows_are = g.rows_are ∙ ap (λ l. c.before ++ c.base ∷ l) (ap (λ l. l ++ z ∷ c.after) hs ∙ append_assoc ahead (first ∷ between) (z ∷ c.after));
        base_is = g.base_is;
        marks_are = are.0;
        mark_is = are.1.0;
      } in
      let st = stands lines f s rows c.before c.base c.marks z c.after g bb hb n mb hm in
      let sf = stands lines f s rows c.before c.base ahead first (between ++ z ∷ c.after) g2 bb hb nf ab ha in
      from_mark d ab mb (item_of (base_place c) (look f s rows)) (item_of (place_after c ahead) (look f s rows)) (item_of (mark_place c) (look f s rows)) ya _ need sf.1 st.1 k

  centred : InTheMiddle f s rows (look f s rows)
  centred c bb mb hb hm n ha =
      let b : Base = the_base f s c.base bb hb in
      let w : Walk = the_start f s c.base bb hb in
      let z : SignRow = c.mark in
      let v : Walk = after f s b w c.marks in
      let hold = holds_after f s b c.marks w false (record { sides = refl; none = λ _. refl; run = λ _. refl }) in
      let r : Extents = (into f s b v z).run in
      let e : sides_of r ≡ component_sides f s c.base c.marks z =
      into_run f s b z v (any_belongs c.base c.marks) hold n ∙ into_sides f s b z v (any_belongs c.base c.marks) hold n ∙ ap (λ t. own f s b t (row_component c.base z)) (sym (any_last c.base c.marks z)) in
      let st = stands lines f s rows c.before c.base c.marks z c.after c.in_group bb hb n mb hm in
      let i : Item = item_of (base_place c) (look f s rows) in
      let j : Item = item_of (mark_place c) (look f s rows) in
      subst (λ k. Even (left_room i k (moved j mb)) (right_room i k (moved j mb))) e
      (from_sides i j (sides_of r) mb (placed r mb (gap_of f) (row_class z) s.direction).x st.0 (centres keep (gap_of f) (row_class z) s.direction r mb ha))

pub looks_keep : PlacedMarksKeep → LinesStand → LooksKeep
looks_keep keep lines f s rows = record {
  as_many = as_many lines f s rows;
  in_turn = in_turn lines f s rows;
  shows = shows lines f s rows;
  clear_of_base = clear_of_base keep lines f s rows;
  clear_of_marks = clear_of_marks keep lines f s rows;
  centred = centred keep lines f s rows;
}
