-- A sign of the code as its row, and what making one gives.
use Rattle.std.specs.Prelude.{ℕ, cond, not, Ok, Err, Result, nat_le}
use Rattle.signs.specs.declared.row.SignRow.{SignRow}
use Rattle.signs.specs.declared.sign.Sign.{Sign}
use Rattle.signs.specs.Props.{has_category, has_class}
use Rattle.signs.specs.Rows.{row_from}

abbrev pub row_of : Sign → SignRow
row_of s = s.row

-- The row of the sign with these numbers, or the smallest number of a refusal that fits.
abbrev pub sign_outcome : ℕ → ℕ → ℕ → ℕ → Result SignRow ℕ
sign_outcome code props glyph lig =
    cond (not (nat_le code 0x10FFFF)) (Err 10)
    (cond (not (has_category props)) (Err 11)
    (cond (not (has_class props)) (Err 12)
    (Ok (row_from code props glyph lig))))
