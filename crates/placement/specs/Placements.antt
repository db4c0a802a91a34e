-- Placing the marks of a line: each base opens a group, and the marks after it go by it.
use Rattle.std.specs.Prelude.{Bool, true, false, cond, List, [], ◌∷◌, map, ℤ, pos, ◌-ℤ◌, Some, None, Option}
use Rattle.signs.specs.Rows.{is_mark, is_nonspacing_mark}
use Rattle.faces.specs.Meaning.{FaceMeaning, Edges}
use Rattle.placement.specs.declared.position.Position.{Position}
use Rattle.placement.specs.declared.settings.Settings.{Settings}
use Rattle.placement.specs.declared.walk.Walk.{Walk}
use Rattle.placement.specs.Lines.{Cell, cell, at}
use Rattle.placement.specs.Walks.{Base, footing, base_at, start, next, out, walked}

-- A nonspacing mark after a base without a box has no advances; where the line adjusts, it first goes back by them.
abbrev pub less : Bool → ℤ → ℤ → ℤ
less adjust o a = cond adjust (o -ℤ a) o

abbrev pub zeroed_position : Bool → Position → Position
zeroed_position adjust p = at (pos 0) (pos 0) (less adjust p.x_offset p.x_advance) (less adjust p.y_offset p.y_advance)

abbrev pub zeroed : Bool → Cell → Cell
zeroed adjust c = cond (is_nonspacing_mark c.row) (cell c.row (zeroed_position adjust c.position)) c

-- Where a line's next mark stands: before any base, after a base without a box, or on the walk around a base.
pub data Standing : Type 0 where
  Leading : Standing
  Bare : Standing
  Along : Base → Walk → Standing

module _ (f : FaceMeaning) (s : Settings) where
  abbrev pub opened : Cell → Option Edges → Standing
  opened c None = Bare
  opened c (Some e) = Along (base_at f c e) (start s c (base_at f c e))

  abbrev pub mark_out : Standing → Cell → Cell
  mark_out Leading c = c
  mark_out Bare c = zeroed s.adjust c
  mark_out (Along b w) c = out f s b w c

  abbrev pub mark_next : Standing → Cell → Standing
  mark_next Leading c = Leading
  mark_next Bare c = Bare
  mark_next (Along b w) c = Along b (next f s b w c)

  -- a mark goes by the signs before it, a base opens a group
  abbrev pub out_by : Bool → Standing → Cell → Cell
  out_by true st c = mark_out st c
  out_by false st c = c

  abbrev pub next_by : Bool → Standing → Cell → Standing
  next_by true st c = mark_next st c
  next_by false st c = opened c (footing (f.bounds c.row.code))

  abbrev pub flow : Standing → List Cell → List Cell
  flow st [] = []
  flow st (c ∷ cs) = out_by (is_mark c.row) st c ∷ flow (next_by (is_mark c.row) st c) cs

  abbrev pub placed_line : List Cell → List Cell
  placed_line cs = flow Leading cs

  -- the marks of one group
  abbrev pub around : Cell → Option Edges → List Cell → List Cell
  around c None ms = map (zeroed s.adjust) ms
  around c (Some e) ms = walked f s (base_at f c e) (start s c (base_at f c e)) ms

  -- a base and its marks
  abbrev pub group : List Cell → List Cell
  group [] = []
  group (c ∷ ms) = c ∷ around c (footing (f.bounds c.row.code)) ms
