-- What glyph records and code records mean, and which of them may make a face.
use Rattle.std.specs.Prelude.{ℕ, Bool, cond, not, ◌&&◌, ◌||◌, List, ℤ, pos, neg_ℤ, Some, None, Ok, Err, Option, Result, nat_le}
use Rattle.faces.specs.declared.records.GlyphRecord.{GlyphRecord}
use Rattle.faces.specs.declared.records.CodeRecord.{CodeRecord}
use Rattle.faces.specs.Meaning.{FaceMeaning, Edges, edges}
use Rattle.faces.specs.Straight.{straight}
use Rattle.faces.specs.Keys.{rising, first, every}

-- Glyph records are ordered by glyph, code records by code.
abbrev pub glyph_key : GlyphRecord → ℕ
glyph_key r = r.glyph

abbrev pub code_key : CodeRecord → ℕ
code_key r = r.code

abbrev pub edges_in : GlyphRecord → Edges
edges_in r = edges r.left r.bottom r.right r.top

-- A glyph record's edges are not crossed; without a box they are not looked at.
abbrev pub glyph_sound : GlyphRecord → Bool
glyph_sound r = not r.has_box || straight (edges_in r)

-- A code record has a glyph other than 0 and a code of at most 0x10FFFF.
abbrev pub code_sound : CodeRecord → Bool
code_sound r = nat_le 1 r.glyph && nat_le r.code 0x10FFFF

-- What a record answers; a glyph without a record has advances of 0 and no box, a code without a record no glyph.
abbrev pub glyph_in : Option CodeRecord → Option ℕ
glyph_in (Some r) = Some r.glyph
glyph_in None = None

abbrev pub across_in : Option GlyphRecord → ℕ
across_in (Some r) = r.across
across_in None = 0

abbrev pub down_in : Option GlyphRecord → ℤ
down_in (Some r) = neg_ℤ (pos r.down)
down_in None = pos 0

abbrev pub box_in : Option GlyphRecord → Option Edges
box_in (Some r) = cond r.has_box (Some (edges_in r)) None
box_in None = None

-- The face of an em, glyph records and code records.
abbrev pub record_meaning : ℕ → List GlyphRecord → List CodeRecord → FaceMeaning
record_meaning em gs cs = record {
  em = em;
  glyph = λ c. glyph_in (first code_key c cs);
  across = λ g. across_in (first glyph_key g gs);
  down = λ g. down_in (first glyph_key g gs);
  bounds = λ g. box_in (first glyph_key g gs);
}

-- The face, or the smallest number of a refusal that fits, over both lists.
abbrev pub record_outcome : ℕ → List GlyphRecord → List CodeRecord → Result FaceMeaning ℕ
record_outcome em gs cs =
    cond (not (nat_le 16 em && nat_le em 16384)) (Err 1)
    (cond (not (rising glyph_key gs && rising code_key cs)) (Err 2)
    (cond (not (every glyph_sound gs)) (Err 3)
    (cond (not (every code_sound cs)) (Err 4)
    (Ok (record_meaning em gs cs)))))
