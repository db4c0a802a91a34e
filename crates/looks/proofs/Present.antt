-- Each sign has its item.
use Rattle.std.proofs.Common.{◌≡◌, ℕ, suc, List, [], ◌∷◌, ◌++◌, map, length, sym, refl, ap, ◌∙◌, arith}
use Rattle.std.proofs.lemmas.List.{map-append, length-map}
use Rattle.signs.specs.declared.SignRow.{SignRow}
use Rattle.signs.specs.Reclassing.{reclassed}
use Rattle.faces.specs.Meaning.{FaceMeaning}
use Rattle.placement.specs.declared.Settings.{Settings}
use Rattle.placement.specs.Directions.{is_forward}
use Rattle.placement.specs.Lines.{Cell, rows_of}
use Rattle.placement.specs.Mapped.{map_row}
use Rattle.placement.specs.Route.{route}
use Rattle.placement.specs.ByGroups.{LinesStand}
use Rattle.looks.specs.Drawing.{look, drawn, turns}
use Rattle.looks.specs.Shown.{item_of}
use Rattle.looks.specs.Promise.{InTurn, Shows}
use Rattle.looks.proofs.Pens.{drawn_at, drawn_length, drawn_places}

no_more : {X : Type 0} {y : X} {ys : List X} → [] ≡ y ∷ ys → ⊥
no_more e = let z : ◌≡◌ {A = ℕ} 0 1 = cc in omega arith

-- a line whose rows are cut is cut there
pub record Cut (cs : List Cell) (us : List SignRow) (u : SignRow) : Type 0 where
  pub front : List Cell
  pub cell : Cell
  pub rest : List Cell
  pub is : cs ≡ front ++ cell ∷ rest
  pub front_is : length front ≡ length us
  pub cell_is : cell.row ≡ u

nil_cons : (us : List SignRow) (u : SignRow) (vs : List SignRow) → [] ≡ us ++ u ∷ vs → ⊥
nil_cons [] u vs e = no_more e
nil_cons (x ∷ us) u vs e = no_more e

cut_more : (c : Cell) (x : SignRow) (cs : List Cell) (us : List SignRow) (u : SignRow) → Cut cs us u → Cut (c ∷ cs) (x ∷ us) u
cut_more c x cs us u k = record { front = c ∷ k.front; cell = k.cell; rest = k.rest; is = ap (λ l. c ∷ l) k.is; front_is = ap suc k.front_is; cell_is = k.cell_is }

cut_at : (cs : List Cell) (us : List SignRow) (u : SignRow) (vs : List SignRow) → rows_of cs ≡ us ++ u ∷ vs → Cut cs us u
cut_at [] us u vs e = absurd (nil_cons us u vs e)
cut_at (c ∷ cs) [] u vs e = record { front = []; cell = c; rest = cs; is = refl; front_is = refl; cell_is = cc }
cut_at (c ∷ cs) (x ∷ us) u vs e = cut_more c x cs us u (cut_at cs us u vs (cc))

module _ (lines : LinesStand) (f : FaceMeaning) (s : Settings) where
  pub as_many : (rows : List SignRow) → length (look f s rows) ≡ length rows
  as_many rows = drawn_length s (route f s rows) ∙ lines.as_long f s rows

  pub in_turn : (rows : List SignRow) → InTurn f s rows (look f s rows)
  in_turn rows = drawn_places s (route f s rows) ∙ ap (turns (is_forward s.direction)) (lines.as_long f s rows)

  shown_at : (cs : List Cell) (us : List SignRow) (u : SignRow) (n : ℕ) → length us ≡ n → Cut cs us u → ((item_of n (drawn s cs)).place ≡ n) × ((item_of n (drawn s cs)).glyph ≡ u.code)
  shown_at cs us u n en k =
      let a = drawn_at s k.front k.cell k.rest in
      let m : length k.front ≡ n = k.front_is ∙ en in
      let i : item_of n (drawn s cs) ≡ item_of (length k.front) (drawn s (k.front ++ k.cell ∷ k.rest)) = ap (λ l. item_of n (drawn s l)) k.is ∙ ap (λ m. item_of m (drawn s (k.front ++ k.cell ∷ k.rest))) (sym m) in
      (ap (λ j. j.place) i ∙ a.place_is ∙ m, ap (λ j. j.glyph) i ∙ a.glyph_is ∙ ap (λ r. r.code) k.cell_is)

  pub shows : (rows : List SignRow) → Shows f s rows (look f s rows)
  shows rows before sign rest e =
      let line_row : SignRow → SignRow = λ (r : SignRow). map_row f (reclassed r) in
      shown_at (route f s rows) (map line_row before) (line_row sign) (length before) (length-map before line_row)
      (cut_at (route f s rows) (map line_row before) (line_row sign) (map line_row rest) (lines.in_order f s rows ∙ ap (map line_row) e ∙ map-append line_row before (sign ∷ rest)))
