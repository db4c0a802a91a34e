-- A row as it is read, and what the row of a sign says.
use Rattle.std.specs.Prelude.{ℕ, ◌/◌, ◌%◌, Bool, cond, ◌&&◌, ◌==◌}
use Rattle.signs.specs.declared.row.SignRow.{SignRow}
use Rattle.signs.specs.Props.{category_of, class_of, is_mark_of, read_props}

-- The row of a code, the properties of its character and of its glyph, and those of its ligature.
abbrev pub row_from : ℕ → ℕ → ℕ → ℕ → SignRow
row_from code props glyph lig = record {
  code = code;
  unicode_props = props;
  glyph_props = glyph;
  lig_props = lig;
}

-- Only properties that no sign may have are changed.
abbrev pub read_row : SignRow → SignRow
read_row r = row_from r.code (read_props r.unicode_props) r.glyph_props r.lig_props

abbrev pub category : SignRow → ℕ
category r = category_of r.unicode_props

-- of a mark its combining class, of a space its type
abbrev pub class : SignRow → ℕ
class r = class_of r.unicode_props

abbrev pub space_type : SignRow → ℕ
space_type r = class_of r.unicode_props

abbrev pub is_mark : SignRow → Bool
is_mark r = is_mark_of r.unicode_props

abbrev pub is_nonspacing_mark : SignRow → Bool
is_nonspacing_mark r = category r == 12

abbrev pub is_space : SignRow → Bool
is_space r = category r == 29

-- Bit 0x20 of the glyph's properties: formed as a ligature; bit 0x04: the font has it as a ligature.
abbrev pub is_ligated : SignRow → Bool
is_ligated r = r.glyph_props / 32 % 2 == 1

abbrev pub is_ligature : SignRow → Bool
is_ligature r = r.glyph_props / 4 % 2 == 1

-- Bit 0x10 of the ligature's properties: this sign is the ligature, and not a mark on one of its components.
abbrev pub is_lig_base : SignRow → Bool
is_lig_base r = r.lig_props / 16 % 2 == 1

-- The high three bits: which ligature; 0 for none.
abbrev pub lig_id : SignRow → ℕ
lig_id r = r.lig_props / 32

-- The low four bits: of a mark, the component that it stands on, counted from 1; 0 for none.
abbrev pub lig_comp : SignRow → ℕ
lig_comp r = cond (is_lig_base r) 0 (r.lig_props % 16)

-- Of a ligature, its number of components; of any other sign 1.
abbrev pub lig_num_comps : SignRow → ℕ
lig_num_comps r = cond (is_lig_base r && is_ligature r) (r.lig_props % 16) 1
