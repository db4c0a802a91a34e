-- A line by its groups.
use Rattle.std.proofs.Common.{◌≡◌, suc, Bool, true, false, eqb, List, [], ◌∷◌, ◌++◌, map, length, Some, None, Option, sym, refl, ap, ◌∙◌, ⊎_elim}
use Rattle.std.specs.List.{AllByRecursion}
use Rattle.std.proofs.lemmas.List.{map-append, length-map}
use Rattle.std.proofs.lemmas.Bool.{cases_Bool}
use Rattle.signs.specs.declared.SignRow.{SignRow}
use Rattle.signs.specs.Rows.{is_mark, class, is_nonspacing_mark}
use Rattle.signs.specs.Reclassing.{reclassed}
use Rattle.signs.specs.Laws.{ReclassingStands}
use Rattle.faces.specs.Meaning.{FaceMeaning, Edges}
use Rattle.placement.specs.declared.settings.Settings.{Settings}
use Rattle.placement.specs.declared.walk.Walk.{Walk}
use Rattle.placement.specs.Lines.{Cell, rows_of}
use Rattle.placement.specs.Mapped.{map_row}
use Rattle.placement.specs.Walks.{Base, footing, next, out, walked}
use Rattle.placement.specs.Placements.{Standing, Leading, Bare, Along, zeroed, opened, out_by, next_by, flow, placed_line, around}
use Rattle.placement.specs.Route.{cell_of}
use Rattle.placement.specs.ByGroups.{IsMark, Opens, OneGroup, LeadingMarks, CutLines, Begins, Seam, AsLong, InOrder, LinesStand}

module _ (f : FaceMeaning) (s : Settings) where
  -- where a line stands after some cells
  abbrev pub flowed : Standing → List Cell → Standing
  flowed st [] = st
  flowed st (c ∷ cs) = flowed (next_by f s (is_mark c.row) st c) cs

  pub flow_append : (st : Standing) (xs ys : List Cell) → flow f s st (xs ++ ys) ≡ flow f s st xs ++ flow f s (flowed st xs) ys
  flow_append st [] ys = refl
  flow_append st (x ∷ xs) ys = ap (λ l. out_by f s (is_mark x.row) st x ∷ l) (flow_append (next_by f s (is_mark x.row) st x) xs ys)

  pub flow_length : (st : Standing) (cs : List Cell) → length (flow f s st cs) ≡ length cs
  flow_length st [] = refl
  flow_length st (c ∷ cs) = ap suc (flow_length (next_by f s (is_mark c.row) st c) cs)

  -- a base starts afresh
  pub afresh : (st v : Standing) (cs : List Cell) → Opens cs → flow f s st cs ≡ flow f s v cs
  afresh st v [] h = refl
  afresh st v (c ∷ cs) h =
      let by : (u : Standing) → flow f s u (c ∷ cs) ≡ _ = λ u. ap (λ t. out_by f s t u c ∷ flow f s (next_by f s t u c) cs) h in
      by st ∙ sym (by v)

  leading : (ms rest : List Cell) → AllByRecursion IsMark ms → flow f s Leading (ms ++ rest) ≡ ms ++ flow f s Leading rest
  leading [] rest h = refl
  leading (m ∷ ms) rest h = ap (λ t. out_by f s t Leading m ∷ flow f s (next_by f s t Leading m) (ms ++ rest)) h.0 ∙ ap (λ l. m ∷ l) (leading ms rest h.1)

  bare : (ms rest : List Cell) → AllByRecursion IsMark ms → Opens rest → flow f s Bare (ms ++ rest) ≡ map (zeroed s.adjust) ms ++ flow f s Leading rest
  bare [] rest h o = afresh Bare Leading rest o
  bare (m ∷ ms) rest h o = ap (λ t. out_by f s t Bare m ∷ flow f s (next_by f s t Bare m) (ms ++ rest)) h.0 ∙ ap (λ l. zeroed s.adjust m ∷ l) (bare ms rest h.1 o)

  along : (b : Base) (w : Walk) (ms rest : List Cell) → AllByRecursion IsMark ms → Opens rest → flow f s (Along b w) (ms ++ rest) ≡ walked f s b w ms ++ flow f s Leading rest
  along b w [] rest h o = afresh (Along b w) Leading rest o
  along b w (m ∷ ms) rest h o = ap (λ t. out_by f s t (Along b w) m ∷ flow f s (next_by f s t (Along b w) m) (ms ++ rest)) h.0 ∙ ap (λ l. out f s b w m ∷ l) (along b (next f s b w m) ms rest h.1 o)

  by_box : (c : Cell) (o : Option Edges) (ms rest : List Cell) → AllByRecursion IsMark ms → Opens rest → flow f s (opened f s c o) (ms ++ rest) ≡ around f s c o ms ++ flow f s Leading rest
  by_box c None ms rest h o = bare ms rest h o
  by_box c (Some e) ms rest h o = along _ _ ms rest h o

  -- placing changes no row
  zeroed_row : (c : Cell) → (zeroed s.adjust c).row ≡ c.row
  zeroed_row c = ⊎_elim (λ q. rw q) (λ q. rw q) (cases_Bool (is_nonspacing_mark c.row))

  out_row : (b : Base) (w : Walk) (c : Cell) → (out f s b w c).row ≡ c.row
  out_row b w c = ⊎_elim (λ q. rw q) (λ q. rw q) (cases_Bool (eqb (class c.row) 0))

  by_row : (t : Bool) (st : Standing) (c : Cell) → (out_by f s t st c).row ≡ c.row
  by_row false st c = refl
  by_row true Leading c = refl
  by_row true Bare c = zeroed_row c
  by_row true (Along b w) c = out_row b w c

  pub flow_rows : (st : Standing) (cs : List Cell) → rows_of (flow f s st cs) ≡ rows_of cs
  flow_rows st [] = refl
  flow_rows st (c ∷ cs) =
      let h = flow_rows (next_by f s (is_mark c.row) st c) cs in
      let g = by_row (is_mark c.row) st c in
      cc

  cells_rows : (rows : List SignRow) → rows_of (map (cell_of f s) rows) ≡ map (λ (r : SignRow). map_row f (reclassed r)) rows
  cells_rows [] = refl
  cells_rows (r ∷ rows) = ap (λ l. map_row f (reclassed r) ∷ l) (cells_rows rows)

  -- a row that is read as no mark is none in its line
  begins_opens : ReclassingStands → (ys : List SignRow) → Begins ys → Opens (map (cell_of f s) ys)
  begins_opens classing [] h = tt
  begins_opens classing (y ∷ ys) h = ap is_mark (classing y).read ∙ (classing y).keeps_marks ∙ h

pub one_group : OneGroup
one_group f s base marks rest hb hm ho =
    ap (λ t. out_by f s t Leading base ∷ flow f s (next_by f s t Leading base) (marks ++ rest)) hb
    ∙ ap (λ l. base ∷ l) (by_box f s base (footing (f.bounds base.row.code)) marks rest hm ho)

pub leading_marks : LeadingMarks
leading_marks f s marks rest h = leading f s marks rest h

pub cut_lines : CutLines
cut_lines f s xs ys h = flow_append f s Leading xs ys ∙ ap (λ l. placed_line f s xs ++ l) (afresh f s (flowed f s Leading xs) Leading ys h)

pub seam : ReclassingStands → Seam
seam classing f s xs ys h = ap (placed_line f s) (map-append (cell_of f s) xs ys) ∙ cut_lines f s (map (cell_of f s) xs) (map (cell_of f s) ys) (begins_opens f s classing ys h)

pub as_long : AsLong
as_long f s rows = flow_length f s Leading (map (cell_of f s) rows) ∙ length-map rows (cell_of f s)

pub in_order : InOrder
in_order f s rows = flow_rows f s Leading (map (cell_of f s) rows) ∙ cells_rows f s rows

pub lines_stand : ReclassingStands → LinesStand
lines_stand classing = record { as_long = as_long; in_order = in_order; seam = seam classing; one_group = one_group; leading_marks = leading_marks; cut_lines = cut_lines }
