-- What holds of every row that is read, and of every row that is classed.
use Rattle.std.specs.Prelude.{◌≡◌, ℕ, ◌/◌, ◌%◌, ◌≤◌, Bool, true, false, ◌&&◌, ◌⊎◌, ◌≢◌, nat_le}
use Rattle.signs.specs.declared.row.SignRow.{SignRow}
use Rattle.signs.specs.declared.sign.Sign.{Sign}
use Rattle.signs.specs.Props.{is_allowed}
use Rattle.signs.specs.Rows.{read_row, category, class, is_mark, is_nonspacing_mark}
use Rattle.signs.specs.Signs.{row_of}
use Rattle.signs.specs.Classes.{recategorized}
use Rattle.signs.specs.Reclassing.{reclassed}

-- A class that names a place: 200 to 254.
abbrev pub is_place : ℕ → Bool
is_place c = nat_le 200 c && nat_le c 254

-- A class stays, or becomes that of a place, and that of a place stays; so a second time changes nothing. Codes other than
-- 0x0E00 to 0x0EFF make no difference.
pub record ClassKeeps (code c : ℕ) : Type 0 where
  pub placed : (recategorized code c ≡ c) ⊎ (is_place (recategorized code c) ≡ true)
  pub stays : 200 ≤ c → recategorized code c ≡ c
  pub again : recategorized code (recategorized code c) ≡ recategorized code c
  pub by_itself : (code / 256 ≢ 0x0E) → recategorized code c ≡ recategorized 0 c

-- A row that is read is one that a sign may have: of a category of at most 29 and, if it is a mark, of a class of at most
-- 254. Such a row is read as itself.
pub record ReadKeeps (r : SignRow) : Type 0 where
  pub itself : is_allowed r.unicode_props ≡ true → read_row r ≡ r
  pub allowed : is_allowed (read_row r).unicode_props ≡ true
  pub has_category : category (read_row r) ≤ 29
  pub has_class : is_mark (read_row r) ≡ true → class (read_row r) ≤ 254
  pub again : read_row (read_row r) ≡ read_row r

-- Classing changes nothing but the class of a nonspacing mark, so marks stay marks and others others; what it writes is
-- read as itself, and classing it again changes nothing.
pub record ReclassedKeeps (r : SignRow) : Type 0 where
  pub others : is_nonspacing_mark (read_row r) ≡ false → reclassed r ≡ read_row r
  pub marks : is_nonspacing_mark (read_row r) ≡ true → class (reclassed r) ≡ recategorized r.code (class (read_row r))
  pub keeps_code : (reclassed r).code ≡ r.code
  pub keeps_glyph : (reclassed r).glyph_props ≡ r.glyph_props
  pub keeps_ligature : (reclassed r).lig_props ≡ r.lig_props
  pub keeps_low_byte : (reclassed r).unicode_props % 256 ≡ (read_row r).unicode_props % 256
  pub keeps_category : category (reclassed r) ≡ category (read_row r)
  pub keeps_marks : is_mark (reclassed r) ≡ is_mark (read_row r)
  pub read : read_row (reclassed r) ≡ reclassed r
  pub again : reclassed (reclassed r) ≡ reclassed r

abbrev pub ClassesStand : Type 0
ClassesStand = (code c : ℕ) → ClassKeeps code c

abbrev pub ReadingStands : Type 0
ReadingStands = (r : SignRow) → ReadKeeps r

abbrev pub ReclassingStands : Type 0
ReclassingStands = (r : SignRow) → ReclassedKeeps r

-- The row of a sign is read as that sign.
abbrev pub SignsReadThemselves : Type 0
SignsReadThemselves = (s : Sign) → read_row (row_of s) ≡ row_of s
