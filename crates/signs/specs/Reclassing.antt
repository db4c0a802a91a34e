-- What classing writes for a row: a nonspacing mark gets the class by which it is placed.
use Rattle.std.specs.Prelude.{ℕ, ◌+◌, ◌*◌, ◌%◌, cond, ◌==◌}
use Rattle.signs.specs.declared.row.SignRow.{SignRow}
use Rattle.signs.specs.Props.{category_of, class_of}
use Rattle.signs.specs.Classes.{recategorized}
use Rattle.signs.specs.Rows.{row_from, read_row}

-- Properties with another class.
abbrev pub with_class : ℕ → ℕ → ℕ
with_class p c = c * 256 + p % 256

-- The properties of a sign of a code: only those of a nonspacing mark change, and of them only the class.
abbrev pub recategorized_props : ℕ → ℕ → ℕ
recategorized_props code p = cond (category_of p == 12) (with_class p (recategorized code (class_of p))) p

abbrev pub recategorized_row : SignRow → SignRow
recategorized_row r = row_from r.code (recategorized_props r.code r.unicode_props) r.glyph_props r.lig_props

-- The row is read first, so a row that no sign may have is written as a space.
abbrev pub reclassed : SignRow → SignRow
reclassed r = recategorized_row (read_row r)
