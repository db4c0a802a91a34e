-- A base with a box and the marks after it, one by one.
use Rattle.std.specs.Prelude.{◌≡◌, ℕ, Bool, true, false, cond, List, [], ◌∷◌, ℤ, pos, ◌+ℤ◌, ◌-ℤ◌, Some, None, Option, ◌==◌, nat_lt}
use Rattle.signs.specs.declared.SignRow.{SignRow}
use Rattle.signs.specs.Rows.{class, lig_num_comps}
use Rattle.faces.specs.Meaning.{FaceMeaning, Edges}
use Rattle.placement.specs.declared.extents.Extents.{Extents}
use Rattle.placement.specs.declared.extents.PlacedMark.{PlacedMark}
use Rattle.placement.specs.declared.position.Position.{Position}
use Rattle.placement.specs.declared.settings.Settings.{Settings}
use Rattle.placement.specs.declared.walk.Walk.{Walk}
use Rattle.placement.specs.Directions.{is_forward}
use Rattle.placement.specs.Text.{is_text_ltr}
use Rattle.placement.specs.Lines.{Cell, cell, at}
use Rattle.placement.specs.Components.{component, share}
use Rattle.placement.specs.Placing.{placed}
use Rattle.placement.specs.OneMark.{box_on, gap_of}

-- The box by which a mark is measured, and the one by which a base is.
abbrev pub ink : Option Edges → Option Edges
ink o = o

abbrev pub footing : Option Edges → Option Edges
footing o = o

-- The base of a group: its row, and its box, as wide as its advance across and moved up by its offset.
pub record Base : Type 0 where
  pub row : SignRow
  pub extents : Extents

abbrev pub raised : ℤ → Extents → Extents
raised y e = record { left = e.left; width = e.width; bottom = e.bottom +ℤ y; top = e.top +ℤ y }

abbrev pub base_at : FaceMeaning → Cell → Edges → Base
base_at f c e = record { row = c.row; extents = raised c.position.y_offset (box_on (f.across c.row.code) e) }

-- Forward, the pen has gone by the advances of the base when it draws a mark, and that is taken back; backward, it has yet
-- to go by them.
abbrev pub began : Bool → ℤ → ℤ
began true a = pos 0 -ℤ a
began false a = pos 0

abbrev pub walk_from : Bool → Position → Extents → Walk
walk_from fw p e = record { x = began fw p.x_advance; y = began fw p.y_advance; component = 0; class = 0; around = e; run = e }

abbrev pub start : Settings → Cell → Base → Walk
start s c b = walk_from (is_forward s.direction) c.position b.extents

-- A mark of class 0 stays, and the marks after it make up for its advances.
abbrev pub corrected : Bool → ℤ → ℤ → ℤ
corrected true z a = z -ℤ a
corrected false z a = z +ℤ a

abbrev pub passed : Bool → Walk → Position → Walk
passed fw w p = record { x = corrected fw w.x p.x_advance; y = corrected fw w.y p.y_advance; component = w.component; class = w.class; around = w.around; run = w.run }

-- At another component the box around which marks go is that component's, and no run has begun.
abbrev pub to_component : Settings → Base → ℕ → Walk → Walk
to_component s b k w = cond (w.component == k) w (record { x = w.x; y = w.y; component = k; class = 0; around = share (is_text_ltr s) (lig_num_comps b.row) k b.extents; run = w.run })

-- A mark of another class begins a run, from the box of its component.
abbrev pub to_run : ℕ → Walk → Walk
to_run c w = cond (w.class == c) w (record { x = w.x; y = w.y; component = w.component; class = c; around = w.around; run = w.around })

-- Along a base of one component no other component is ever come to.
abbrev pub Known : Base → Walk → Type 0
Known b w = nat_lt 1 (lig_num_comps b.row) ≡ false → w.component ≡ 0

abbrev pub entered : Settings → Base → SignRow → Walk → Walk
entered s b m w = to_run (class m) (to_component s b (component b.row m) w)

-- A mark with a box goes to its place and its run reaches further; one without keeps its offsets. Both are corrected, and
-- have no advances.
abbrev pub with_run : Walk → Extents → Walk
with_run w run = record { x = w.x; y = w.y; component = w.component; class = w.class; around = w.around; run = run }

abbrev pub placed_at : Walk → PlacedMark → Position
placed_at w p = at (pos 0) (pos 0) (p.x +ℤ w.x) (p.y +ℤ w.y)

abbrev pub kept_at : Walk → Position → Position
kept_at w p = at (pos 0) (pos 0) (p.x_offset +ℤ w.x) (p.y_offset +ℤ w.y)

module _ (f : FaceMeaning) (s : Settings) where
  abbrev pub settled_walk : Walk → ℕ → Option Edges → Walk
  settled_walk w c None = w
  settled_walk w c (Some m) = with_run w (placed w.run m (gap_of f) c s.direction).run

  abbrev pub settled : Walk → ℕ → Option Edges → Position → Position
  settled w c None p = kept_at w p
  settled w c (Some m) p = placed_at w (placed w.run m (gap_of f) c s.direction)

  abbrev pub next : Base → Walk → Cell → Walk
  next b w c = cond (class c.row == 0) (passed (is_forward s.direction) w c.position) (settled_walk (entered s b c.row w) (class c.row) (ink (f.bounds c.row.code)))

  abbrev pub out : Base → Walk → Cell → Cell
  out b w c = cond (class c.row == 0) c (cell c.row (settled (entered s b c.row w) (class c.row) (ink (f.bounds c.row.code)) c.position))

  -- the marks of a group, each by the walk that those before it left
  abbrev pub walked : Base → Walk → List Cell → List Cell
  walked b w [] = []
  walked b w (c ∷ cs) = out b w c ∷ walked b (next b w c) cs
