-- Mapping: the face's glyph in place of each code, and its advance along the line.
use Rattle.std.specs.Prelude.{ℕ, Bool, true, false, ℤ, pos}
use Rattle.std.specs.Option.{unwrap_or}
use Rattle.signs.specs.declared.SignRow.{SignRow}
use Rattle.signs.specs.Rows.{read_row}
use Rattle.faces.specs.Meaning.{FaceMeaning}
use Rattle.placement.specs.declared.position.Position.{Position}
use Rattle.placement.specs.declared.settings.Settings.{Settings}
use Rattle.placement.specs.Directions.{is_horizontal}
use Rattle.placement.specs.Lines.{Cell, cell, at}

-- The glyph that stands for a code: 0 if the face has none.
abbrev pub glyph_for : FaceMeaning → ℕ → ℕ
glyph_for f code = unwrap_or (f.glyph code) 0

abbrev pub with_code : ℕ → SignRow → SignRow
with_code g r = record { code = g; unicode_props = r.unicode_props; glyph_props = r.glyph_props; lig_props = r.lig_props }

-- A row is read, and its code becomes a glyph.
abbrev pub map_row : FaceMeaning → SignRow → SignRow
map_row f r = with_code (glyph_for f r.code) (read_row r)

-- A glyph's advance along a horizontal or a vertical line.
abbrev pub along : FaceMeaning → Bool → ℕ → ℤ
along f true g = pos (f.across g)
along f false g = f.down g

-- An advance along the line, and zeros elsewhere.
abbrev pub advanced : Bool → ℤ → Position
advanced true a = at a (pos 0) (pos 0) (pos 0)
advanced false a = at (pos 0) a (pos 0) (pos 0)

abbrev pub map_position : FaceMeaning → Bool → SignRow → Position
map_position f h r = advanced h (along f h (glyph_for f r.code))

abbrev pub mapped : FaceMeaning → Settings → SignRow → Cell
mapped f s r = cell (map_row f r) (map_position f (is_horizontal s.direction) r)
