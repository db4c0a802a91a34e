-- The share of its base that a mark stands over. A ligature is one glyph for several letters, its components, and each
-- has an equal share of its width. The width of a base is the face's advance across.
use Rattle.std.specs.Prelude.{ℕ, Bool, false, cond, not, ◌&&◌, ◌||◌, List, [], ◌∷◌, ◌++◌, ℤ, pos, ◌*ℤ◌, ◌==◌, int_div}
use Rattle.signs.specs.declared.SignRow.{SignRow}
use Rattle.faces.specs.Meaning.{FaceMeaning}
use Rattle.placement.specs.declared.Settings.{Settings}
use Rattle.placement.specs.Text.{is_text_ltr}
use Rattle.placement.specs.Components.{leftward}
use Rattle.looks.specs.Signs.{row_class, row_component, row_components, glyph_of}

-- The left side and the width of a box.
pub record Sides : Type 0 where
  pub left : ℤ
  pub width : ℤ

-- The sides of a base of width w, and of its component k of n. Divisions round toward zero.
abbrev pub whole : ℤ → Sides
whole w = record { left = pos 0; width = w }

abbrev pub part : Bool → ℕ → ℕ → ℤ → Sides
part ltr n k w = record { left = int_div (leftward ltr n k *ℤ w) (pos n); width = int_div w (pos n) }

-- A mark of a class other than 0 that belongs to a component.
abbrev pub belongs : SignRow → SignRow → Bool
belongs base m = not (row_class m == 0) && not (row_component base m == 0)

abbrev pub any_belongs : SignRow → List SignRow → Bool
any_belongs base [] = false
any_belongs base (m ∷ ms) = belongs base m || any_belongs base ms

-- The sides of a mark's component: those of the base as long as no mark of the group has belonged to a component, then
-- those of its share.
abbrev pub component_sides : FaceMeaning → Settings → SignRow → List SignRow → SignRow → Sides
component_sides f s base marks mark =
    cond (any_belongs base (marks ++ mark ∷ []))
    (part (is_text_ltr s) (row_components base) (row_component base mark) (pos (f.across (glyph_of f base))))
    (whole (pos (f.across (glyph_of f base))))
