-- How far the marks go that stand at a place of a list.
use Rattle.std.specs.Prelude.{ℕ, Bool, not, suc, ◌+◌, cond, List, [], ◌∷◌, drop}
use Rattle.signs.specs.declared.SignRow.{SignRow}
use Rattle.signs.specs.Rows.{is_mark, read_row}

-- how many marks a list begins with
abbrev pub marks : List SignRow → ℕ
marks [] = 0
marks (r ∷ rs) = cond (is_mark (read_row r)) (suc (marks rs)) 0

-- the test for the sign that ends them
abbrev pub is_base : SignRow → Bool
is_base r = not (is_mark (read_row r))

-- the first place from one on that has no mark, or the length
abbrev pub base_after : List SignRow → ℕ → ℕ
base_after rows place = place + marks (drop place rows)
