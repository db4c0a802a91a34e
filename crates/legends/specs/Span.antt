-- The span of a place: the part of a line that a change there can reach. It begins at the nearest other sign before the place
-- that is no mark, since a mark put at the place would belong to it, and ends before the nearest one after.
use Rattle.std.specs.Prelude.{ℕ, zero, suc, ◌+◌, Bool, cond, List, slice_index_or}
use Rattle.signs.specs.declared.SignRow.{SignRow}
use Rattle.signs.specs.Rows.{is_mark, read_row}
use Rattle.placement.specs.Marks.{base_after}
use Rattle.drawings.specs.Pens.{no_row}

-- Past the end of a list nothing is looked at.
abbrev pub is_mark_at : List SignRow → ℕ → Bool
is_mark_at rows place = is_mark (read_row (slice_index_or rows place no_row))

-- The nearest sign before a place that is no mark, or 0.
abbrev pub end_before : List SignRow → ℕ → ℕ
end_before rows zero = 0
end_before rows (suc k) = cond (is_mark_at rows k) (end_before rows k) k

-- The nearest sign after a place that is no mark, or the length.
abbrev pub end_after : List SignRow → ℕ → ℕ
end_after rows place = base_after rows (place + 1)

abbrev pub span_of : List SignRow → ℕ → ℕ × ℕ
span_of rows place = (end_before rows place, end_after rows place)
