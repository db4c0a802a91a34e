-- The laws of drawing, by those of looks.
use Rattle.std.proofs.Common.{List, [], ◌∷◌, pos, ◌+ℤ◌, ◌≤ℤ◌, sym, refl, ap, ◌∙◌, subst, arith}
use Rattle.std.proofs.lemmas.List.{length-map}
use Rattle.std.proofs.lemmas.Int.{ints}
use Rattle.signs.specs.declared.SignRow.{SignRow}
use Rattle.faces.specs.Meaning.{FaceMeaning, Edges, Keeps}
use Rattle.placement.specs.declared.Settings.{Settings}
use Rattle.placement.specs.declared.classes.Way.{Way}
use Rattle.looks.specs.Groups.{Marked}
use Rattle.looks.specs.Steps.{gaps, heights}
use Rattle.looks.specs.Laws.{LooksStand}
use Rattle.looks.specs.Promise as looks_promise
use Rattle.drawings.specs.declared.item.Item.{Item}
use Rattle.drawings.specs.Drawing.{seen, seen_all, look}
use Rattle.drawings.specs.Promise.{Fits, DrawingsKeep}
use Rattle.drawings.specs.Laws.{SideBySide, TurnByTurn, DrawingsStand}
use Rattle.drawings.proofs.Seen.{seen_drawn, seen_look}
use Rattle.drawings.proofs.Turns.{drawing_length, turn_drawn}

module _ (stand : LooksStand) where
  fits : (f : FaceMeaning) → Keeps f → (s : Settings) (rows : List SignRow) (items : List Item) (c : Marked rows) (between : List SignRow) (d : Way) (first later : Edges)
      → looks_promise.Fits f s rows (seen_all items) c between d first later → Fits f s rows items c between d first later
  fits f keeps s rows items c between d first later room =
      let least : pos 0 ≤ℤ (pos (gaps f c.base between c.mark) +ℤ heights f c.base between c.mark) = stand.never_negative f keeps c.base between c.mark in
      record { room = room; never_negative = omega (arith, ints) }

  drawings_keep : DrawingsKeep
  drawings_keep f keeps s rows =
      let items : List Item = look f s rows in
      let kept : looks_promise.Promise f s rows (seen_all items) = subst (looks_promise.Promise f s rows) (sym (seen_look f s rows)) (stand.promise f s rows) in
      record {
        shown = record { as_many = sym (length-map items seen) ∙ kept.as_many; in_turn = kept.in_turn; shows = kept.shows };
        clear = record {
          clear_of_base = λ c d base_box mark_box hb hm hw. fits f keeps s rows items c c.marks d _ _ (kept.clear_of_base c d base_box mark_box hb hm hw);
          clear_of_marks = λ c d base_box mark_box hb hm hw front first between first_box hs hr hf. fits f keeps s rows items c between d _ _ (kept.clear_of_marks c d base_box mark_box hb hm hw front first between first_box hs hr hf);
        };
        centred = kept.centred;
      }

  side_by_side : SideBySide
  side_by_side [] = refl
  side_by_side (c ∷ cs) = ap (λ l. c ∷ l) (side_by_side cs)

  turn_by_turn : TurnByTurn
  turn_by_turn forward rows ps long = record { as_many = drawing_length forward rows ps long; each = turn_drawn forward rows ps long }

  pub drawings_stand : DrawingsStand
  drawings_stand = record { looks = stand; drawn_as_looks = seen_drawn; seen_as_looks = seen_look; promise = drawings_keep; side_by_side = side_by_side; turn_by_turn = turn_by_turn }
