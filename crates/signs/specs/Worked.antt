-- Worked classes and readings.
use Rattle.std.specs.Prelude.{◌≡◌, true, false, Ok, Err}
use Rattle.signs.specs.Rows.{row_from, read_row, class, space_type, is_mark, is_nonspacing_mark, is_space, is_ligated, lig_id, lig_comp, lig_num_comps}
use Rattle.signs.specs.Signs.{sign_outcome}
use Rattle.signs.specs.Classes.{recategorized}
use Rattle.signs.specs.Reclassing.{reclassed}

pub record WorkedClasses : Type 0 where
  -- Hebrew: sheva, meteg, rafe, shin dot, sin dot, holam, point varika; dagesh stays
  pub sheva : recategorized 0x05B0 22 ≡ 220
  pub meteg : recategorized 0x05BD 25 ≡ 220
  pub rafe : recategorized 0x05BF 13 ≡ 214
  pub shin_dot : recategorized 0x05C1 10 ≡ 232
  pub sin_dot : recategorized 0x05C2 11 ≡ 228
  pub holam : recategorized 0x05B9 14 ≡ 228
  pub varika : recategorized 0xFB1E 26 ≡ 230
  pub dagesh : recategorized 0x05BC 12 ≡ 12
  -- Arabic and Syriac: shadda, fathatan, kasratan, kasra, superscript alaph
  pub shadda : recategorized 0x0651 27 ≡ 230
  pub fathatan : recategorized 0x064B 28 ≡ 230
  pub kasratan : recategorized 0x064D 30 ≡ 220
  pub kasra : recategorized 0x0650 33 ≡ 220
  pub alaph : recategorized 0x0711 36 ≡ 230
  -- Thai: a mark above of class 0, a vowel below, a tone, and the virama with any class but 0 and those of places
  pub mai_han_akat : recategorized 0x0E31 0 ≡ 232
  pub sara_u : recategorized 0x0E38 3 ≡ 222
  pub mai_ek : recategorized 0x0E48 107 ≡ 232
  pub virama : recategorized 0x0E3A 9 ≡ 222
  pub virama_as_sheva : recategorized 0x0E3A 22 ≡ 222
  pub virama_of_none : recategorized 0x0E3A 0 ≡ 0
  pub virama_placed : recategorized 0x0E3A 200 ≡ 200
  pub thai_unlisted : recategorized 0x0E32 0 ≡ 0
  -- Lao: marks above and below of class 0, a vowel below, a tone
  pub lao_above : recategorized 0x0EB1 0 ≡ 230
  pub lao_last : recategorized 0x0ECD 0 ≡ 230
  pub lao_below : recategorized 0x0EBC 0 ≡ 220
  pub lao_u : recategorized 0x0EB8 118 ≡ 220
  pub lao_tone : recategorized 0x0EC8 122 ≡ 230
  -- Tibetan: signs aa, i and u; no mark has 130, the class of Unicode for i
  pub tibetan_aa : recategorized 0x0F71 129 ≡ 220
  pub tibetan_i : recategorized 0x0F72 132 ≡ 230
  pub tibetan_u : recategorized 0x0F74 131 ≡ 220
  pub tibetan_none : recategorized 0x0F72 130 ≡ 130
  -- a listed code of another class goes by the class; a code of another block, alike in its low byte, is not listed
  pub listed_otherwise : recategorized 0x0E31 9 ≡ 9
  pub other_block : recategorized 0x10E31 0 ≡ 0
  pub place : recategorized 0x0301 230 ≡ 230

pub record WorkedRows : Type 0 where
  -- categories 30 and 31, and marks of class 255, are read as a space of type 18; a letter may have 255
  pub bad_category : read_row (row_from 65 30 4 16) ≡ row_from 65 4637 4 16
  pub bad_class : read_row (row_from 0xFFFFFFFF 0xFF0C 1 2) ≡ row_from 0xFFFFFFFF 4637 1 2
  pub letter_kept : read_row (row_from 65 0xFF05 0 0) ≡ row_from 65 0xFF05 0 0
  pub last_class_kept : read_row (row_from 65 0xFE0A 0 0) ≡ row_from 65 0xFE0A 0 0
  pub bad_is_space : is_space (read_row (row_from 65 31 0 0)) ≡ true
  pub bad_is_of_type : space_type (read_row (row_from 65 31 0 0)) ≡ 18
  pub code_first : sign_outcome 0x110000 31 0 0 ≡ Err 10
  pub category_next : sign_outcome 0x10FFFF 0xFF1E 0 0 ≡ Err 11
  pub class_last : sign_outcome 65 0xFF0B 0 0 ≡ Err 12
  pub made : sign_outcome 0x10FFFF 0xFE0C 7 9 ≡ Ok (row_from 0x10FFFF 0xFE0C 7 9)
  -- bits 5 to 7 are no part of the category or the class
  pub sheva : reclassed (row_from 0x05B0 0x16EC 1 2) ≡ row_from 0x05B0 0xDCEC 1 2
  pub spacing : reclassed (row_from 0x05B0 0x160A 1 2) ≡ row_from 0x05B0 0x160A 1 2
  pub unread : reclassed (row_from 0x05B0 0xFF0C 1 2) ≡ row_from 0x05B0 4637 1 2
  pub marks : is_mark (row_from 0 10 0 0) ≡ true
  pub no_mark : is_mark (row_from 0 13 0 0) ≡ false
  pub nonspacing : is_nonspacing_mark (row_from 0 0xE60C 0 0) ≡ true
  pub class_read : class (row_from 0 0xE60C 0 0) ≡ 230
  -- ligature 3 of two components, its mark on the second one, and a base that the font has not as a ligature
  pub ligated : is_ligated (row_from 0 0 0x24 0x72) ≡ true
  pub unligated : is_ligated (row_from 0 0 0xDF 0) ≡ false
  pub ligature : lig_id (row_from 0 0 0x24 0x72) ≡ 3
  pub components : lig_num_comps (row_from 0 0 0x24 0x72) ≡ 2
  pub no_component : lig_comp (row_from 0 0 0x24 0x72) ≡ 0
  pub mark_on : lig_comp (row_from 0 0 0x08 0x62) ≡ 2
  pub mark_alone : lig_num_comps (row_from 0 0 0x08 0x62) ≡ 1
  pub no_ligature : lig_num_comps (row_from 0 0 0x20 0x72) ≡ 1

pub record Worked : Type 0 where
  pub classes : WorkedClasses
  pub rows : WorkedRows
