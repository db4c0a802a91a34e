-- The laws beside the promise.
use Rattle.std.proofs.Common.{◌≡◌, Bool, true, false, cond, ◌⊎◌, List, [], ◌∷◌, ◌++◌, length, pos, ◌≤ℤ◌, Some, None, Option, sym, refl, ap, ◌∙◌, inl, inr, ⊎_elim, arith}
use Rattle.std.proofs.lemmas.List.{append_assoc, length-append}
use Rattle.std.proofs.lemmas.Int.{ints}
use Rattle.std.proofs.lemmas.Bool.{cases_Bool}
use Rattle.signs.specs.declared.SignRow.{SignRow}
use Rattle.signs.specs.Rows.{is_mark}
use Rattle.signs.specs.Laws.{ReclassingStands}
use Rattle.faces.specs.Meaning.{FaceMeaning, Edges, Keeps}
use Rattle.placement.specs.ByGroups.{LinesStand}
use Rattle.placement.specs.Kept.{PlacedMarksKeep}
use Rattle.looks.specs.Signs.{is_mark_row, glyph_of}
use Rattle.looks.specs.Groups.{AreMarks, Marked}
use Rattle.looks.specs.Measured.{measure}
use Rattle.looks.specs.Runs.{same_run}
use Rattle.looks.specs.Steps.{height_if, heights}
use Rattle.looks.specs.Laws.{NeverNegative, Covers, MarksAsRead, LooksStand}
use Rattle.looks.proofs.Edges.{inked}
use Rattle.looks.proofs.Promised.{looks_keep}

module _ (f : FaceMeaning) (u : Keeps f) where
  measured_height : (m : SignRow) (o : Option Edges) → measure f m ≡ o → pos 0 ≤ℤ height_if o
  measured_height m None e = omega (arith, ints)
  measured_height m (Some b) e = let h = (u.boxes (glyph_of f m) b (inked _ b e)).bottom_top in omega (arith, ints)

  stepped_height : (m : SignRow) (t : Bool) → pos 0 ≤ℤ height_if (cond t (measure f m) None)
  stepped_height m true = measured_height m (measure f m) refl
  stepped_height m false = omega (arith, ints)

  heights_positive : (base : SignRow) (ms : List SignRow) (z : SignRow) → pos 0 ≤ℤ heights f base ms z
  heights_positive base [] z = omega (arith, ints)
  heights_positive base (m ∷ ms) z =
      let a = stepped_height m (same_run base m ms z) in
      let b = heights_positive base ms z in
      omega (arith, ints)

never_negative : NeverNegative
never_negative f u base ms z = let h = heights_positive f u base ms z in omega (arith, ints)

-- the last base of some rows
pub record LastBase (rows : List SignRow) : Type 0 where
  pub before : List SignRow
  pub base : SignRow
  pub marks : List SignRow
  pub is : rows ≡ before ++ base ∷ marks
  pub base_is : is_mark_row base ≡ false
  pub marks_are : AreMarks marks

last_base : (rows : List SignRow) → AreMarks rows ⊎ LastBase rows
last_base [] = inl tt
last_base (r ∷ rows) =
    ⊎_elim
    (λ a. ⊎_elim (λ t. inl (t, a)) (λ t. inr (record { before = []; base = r; marks = rows; is = refl; base_is = t; marks_are = a })) (cases_Bool (is_mark_row r)))
    (λ k. inr (record { before = r ∷ k.before; base = k.base; marks = k.marks; is = ap (λ l. r ∷ l) k.is; base_is = k.base_is; marks_are = k.marks_are }))
    (last_base rows)

marked_by : (before : List SignRow) (mark : SignRow) (rest : List SignRow) → is_mark_row mark ≡ true → LastBase before → Marked (before ++ mark ∷ rest)
marked_by before mark rest hm k = record {
  before = k.before;
  base = k.base;
  marks = k.marks;
  mark = mark;
  after = rest;
  in_group = record {
    rows_are = ap (λ l. l ++ mark ∷ rest) k.is ∙ append_assoc k.before (k.base ∷ k.marks) (mark ∷ rest);
    base_is = k.base_is;
    marks_are = k.marks_are;
    mark_is = hm;
  };
}

covers : Covers
unfolding marked_by
covers before mark rest hm =
    ⊎_elim inl (λ k. inr (marked_by before mark rest hm k, sym (ap length k.is ∙ length-append k.before (k.base ∷ k.marks)), refl)) (last_base before)

marks_as_read : ReclassingStands → MarksAsRead
marks_as_read classing r = ap is_mark (classing r).read ∙ (classing r).keeps_marks

pub looks_stand : PlacedMarksKeep → LinesStand → ReclassingStands → LooksStand
looks_stand keep lines classing = record { promise = looks_keep keep lines; never_negative = never_negative; covers = covers; marks_as_read = marks_as_read classing }
