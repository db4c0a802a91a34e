-- Every call keeps the lists in step with the book.
use Rattle.std.proofs.Common.{◌≡◌, ℕ, ◌<◌, Bool, true, false, cond, ltb, leb, List, [], ◌∷◌, ◌++◌, length, set, sym, refl, ap, ◌∙◌, arith, ltb-true}
use mathlib.Core.List.{map-append}
use Rattle.std.proofs.lemmas.List.{length-map}
use Rattle.std.proofs.lemmas.Bool.{and_parts}
use Rattle.signs.specs.declared.SignRow.{SignRow}
use Rattle.faces.specs.Meaning.{FaceMeaning}
use Rattle.placement.specs.declared.Position.{Position}
use Rattle.placement.specs.declared.Settings.{Settings}
use Rattle.placement.specs.ByGroups.{LinesStand}
use Rattle.placement.specs.Lines.{Cell, rows_of, positions_of}
use Rattle.placement.specs.Route.{route}
use Rattle.legends.specs.declared.legend.Legend.{Legend}
use Rattle.legends.specs.declared.call.Call.{Call}
use Rattle.legends.specs.declared.call.Call.TheVariants.{Put, Turn, Draw}
use Rattle.legends.specs.Book.{Book, blank_book, is_accepted, written, writes, writes_all, book_after}
use Rattle.legends.specs.Span.{end_before, end_after}
use Rattle.legends.specs.Leaves.{State, state, routed, around, respanned, after_put, changed, leaves_all, left_by}
use Rattle.legends.proofs.Spans.{before_le, after_le, before_begins, after_begins}
use Rattle.legends.proofs.Relay.{relay}
use Rattle.legends.proofs.Books.{book_long, writes_long}

pub same_lists : {l : Legend} {xs a b : List SignRow} {p q : List Position} → a ≡ b → p ≡ q → state l xs a p ≡ state l xs b q
same_lists e f = cc

module _ (lines : LinesStand) (f : FaceMeaning) where
  module _ {X : Type 0} (s : Settings) (part : List Cell → List X)
      (splits : (xs ys : List Cell) → part (xs ++ ys) ≡ part xs ++ part ys) (keeps : (xs : List Cell) → length (part xs) ≡ length xs) where
    -- a part of each cell, after a put
    part_put : (signs : List SignRow) (place : ℕ) (row : SignRow) → place < length signs
        → around f signs place (part (route f s signs)) (part (respanned f s signs place row)) ≡ part (route f s (set signs place row))
    part_put signs place row h =
        let a = before_le signs place in
        let b = after_le signs place h in
        let ca = before_begins signs place (omega arith) in
        let cb = after_begins signs place in
        sym (relay (λ xs. part (route f s xs)) (λ xs ys q. ap part (lines.seam f s xs ys q) ∙ splits (route f s xs) (route f s ys)) (λ xs. keeps (route f s xs) ∙ lines.as_long f s xs)
        signs place (end_before signs place) (end_after signs place) row a (omega arith) b ca cb)

  -- a put on lists in step leaves all signs gone their route
  pub put_routed : (n : ℕ) (s : Settings) (signs : List SignRow) (place : ℕ) (row : SignRow) → place < length signs
      → after_put f place row (routed f n s signs) ≡ routed f n s (set signs place row)
  put_routed n s signs place row h =
      same_lists (part_put s rows_of (map-append (λ (c : Cell). c.row)) (λ xs. length-map xs (λ (c : Cell). c.row)) signs place row h)
      (part_put s positions_of (map-append (λ (c : Cell). c.position)) (λ xs. length-map xs (λ (c : Cell). c.position)) signs place row h)

  module _ (n : ℕ) where
    abbrev kept : Book → State
    kept b = routed f n b.settings b.signs

    accepted : (c : Call) (b : Book) → is_accepted n c ≡ true → length b.signs ≡ n → changed f c (kept b) ≡ kept (written c b)
    accepted (Put lent place row) b e l =
        put_routed n b.settings b.signs place row (omega (arith, ltb-true place n (and_parts (leb n lent) (ltb place n) e).1))
    accepted (Turn lent settings) b e l = refl
    accepted (Draw lent room) b e l = refl

    one : (c : Call) (b : Book) (v : Bool) → is_accepted n c ≡ v → length b.signs ≡ n → cond v (changed f c (kept b)) (kept b) ≡ kept (cond v (written c b) b)
    one c b true e l = accepted c b e l
    one c b false e l = refl

    all : (calls : List Call) (b : Book) → length b.signs ≡ n → leaves_all f calls (kept b) ≡ kept (writes_all n calls b)
    all [] b l = refl
    all (c ∷ calls) b l = ap (leaves_all f calls) (one c b (is_accepted n c) refl l) ∙ all calls (writes n c b) (writes_long n c b ∙ l)

    -- after any list of calls the lists are the route over all the book's signs
    pub in_step_lem : (calls : List Call) → left_by f n calls ≡ routed f n (book_after n calls).settings (book_after n calls).signs
    in_step_lem calls = all calls (blank_book n) (book_long n [])
