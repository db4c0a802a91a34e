-- Signs of a book as they lie in a line. A book's row is read and classed on its way into the line, and all that a look
-- says of a sign, it says of the row as it lies there: whether it is a mark, its class, the component that it stands on.
use Rattle.std.specs.Prelude.{ℕ, Bool}
use Rattle.signs.specs.declared.SignRow.{SignRow}
use Rattle.signs.specs.Rows.{read_row, is_mark, class, lig_num_comps}
use Rattle.signs.specs.Reclassing.{reclassed}
use Rattle.faces.specs.Meaning.{FaceMeaning}
use Rattle.placement.specs.Mapped.{glyph_for}
use Rattle.placement.specs.Components.{component}

abbrev pub sign_of : SignRow → SignRow
sign_of r = read_row (reclassed r)

abbrev pub is_mark_row : SignRow → Bool
is_mark_row r = is_mark (sign_of r)

-- of a mark its combining class
abbrev pub row_class : SignRow → ℕ
row_class r = class (sign_of r)

-- how many components a base has, and which of them a mark belongs to: counted from 1, 0 for none
abbrev pub row_components : SignRow → ℕ
row_components base = lig_num_comps (sign_of base)

abbrev pub row_component : SignRow → SignRow → ℕ
row_component base mark = component (sign_of base) (sign_of mark)

-- the glyph by which it is drawn
abbrev pub glyph_of : FaceMeaning → SignRow → ℕ
glyph_of f r = glyph_for f r.code
