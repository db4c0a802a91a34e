-- The groups of a line one after another, each written in its own part of the positions.
use Rattle.std.proofs.Common.{◌≡◌, ℕ, zero, suc, ◌+◌, ◌-◌, ◌<◌, ◌≤◌, Bool, true, false, cond, List, [], ◌∷◌, ◌++◌, length, get_or, take, drop, Some, None, Option, sym, refl, ap, ◌∙◌, subst, append_assoc, append-nil, arith, length-append, length-drop}
use borrow.Rule.Slice.PartMut.{put_mid}
use Rattle.std.specs.List.{AllByRecursion}
use Rattle.std.proofs.lemmas.List.{take_all, drop_all, drop-drop, length-map, take_at, drop_at, drop_more, length-take-le, take-append-drop, map-append}
use Rattle.signs.specs.declared.SignRow.{SignRow}
use Rattle.signs.specs.Rows.{is_mark, read_row}
use Rattle.faces.specs.Meaning.{FaceMeaning, Edges}
use Rattle.placement.specs.declared.position.Position.{Position}
use Rattle.placement.specs.declared.settings.Settings.{Settings}
use Rattle.placement.specs.declared.walk.Walk.{Walk}
use Rattle.placement.specs.Lines.{Cell, cell, cells, positions_of}
use Rattle.placement.specs.Marks.{marks}
use Rattle.placement.specs.Walks.{Base, base_at, start, next, walked}
use Rattle.placement.specs.Placements.{zeroed, around, group, placed_line}
use Rattle.placement.specs.ByGroups.{IsMark, Opens}
use Rattle.placement.proofs.Blank.{blank, nowhere}
use Rattle.placement.proofs.ByGroups.{one_group, leading_marks}

-- cells by parts of their lists
pub cells_long : (rs : List SignRow) (ps : List Position) → length ps ≡ length rs → length (cells rs ps) ≡ length rs
cells_long [] ps e = refl
cells_long (r ∷ rs) [] e = absurd (omega arith)
cells_long (r ∷ rs) (p ∷ ps) e = ap suc (cells_long rs ps (omega arith))

pub cells_positions : (rs : List SignRow) (ps : List Position) → length ps ≡ length rs → positions_of (cells rs ps) ≡ ps
cells_positions [] [] e = refl
cells_positions [] (p ∷ ps) e = absurd (omega arith)
cells_positions (r ∷ rs) [] e = absurd (omega arith)
cells_positions (r ∷ rs) (p ∷ ps) e = ap (λ l. p ∷ l) (cells_positions rs ps (omega arith))

cells_take : (n : ℕ) (rs : List SignRow) (ps : List Position) → cells (take n rs) (take n ps) ≡ take n (cells rs ps)
cells_take zero rs ps = refl
cells_take (suc n) [] ps = refl
cells_take (suc n) (r ∷ rs) [] = refl
cells_take (suc n) (r ∷ rs) (p ∷ ps) = ap (λ l. cell (read_row r) p ∷ l) (cells_take n rs ps)

no_cells : (rs : List SignRow) → cells rs [] ≡ []
no_cells [] = refl
no_cells (r ∷ rs) = refl

cells_drop : (n : ℕ) (rs : List SignRow) (ps : List Position) → cells (drop n rs) (drop n ps) ≡ drop n (cells rs ps)
cells_drop zero rs ps = refl
cells_drop (suc n) [] ps = refl
cells_drop (suc n) (r ∷ rs) [] = no_cells (drop n rs)
cells_drop (suc n) (r ∷ rs) (p ∷ ps) = cells_drop n rs ps

-- where the marks of a list end, a base begins
opens_after : (rs : List SignRow) (ps : List Position) → length ps ≡ length rs → Opens (drop (marks rs) (cells rs ps))
opens_after [] ps e = tt
opens_after (r ∷ rs) [] e = absurd (omega arith)
opens_after (r ∷ rs) (p ∷ ps) e = by (is_mark (read_row r)) refl (opens_after rs ps (omega arith))
  where
    by : (b : Bool) → is_mark (read_row r) ≡ b → Opens (drop (marks rs) (cells rs ps)) → Opens (drop (cond b (suc (marks rs)) 0) (cell (read_row r) p ∷ cells rs ps))
    by true q h = h
    by false q h = q

all_marks : (rs : List SignRow) (ps : List Position) → length ps ≡ length rs → AllByRecursion IsMark (take (marks rs) (cells rs ps))
all_marks [] ps e = tt
all_marks (r ∷ rs) [] e = absurd (omega arith)
all_marks (r ∷ rs) (p ∷ ps) e = by (is_mark (read_row r)) refl (all_marks rs ps (omega arith))
  where
    by : (b : Bool) → is_mark (read_row r) ≡ b → AllByRecursion IsMark (take (marks rs) (cells rs ps)) → AllByRecursion IsMark (take (cond b (suc (marks rs)) 0) (cell (read_row r) p ∷ cells rs ps))
    by true q h = (q, h)
    by false q h = tt

-- a group is as long as its cells
walked_long : (f : FaceMeaning) (s : Settings) (b : Base) (w : Walk) (cs : List Cell) → length (walked f s b w cs) ≡ length cs
walked_long f s b w [] = refl
walked_long f s b w (c ∷ cs) = ap suc (walked_long f s b (next f s b w c) cs)

around_long : (f : FaceMeaning) (s : Settings) (c : Cell) (o : Option Edges) (ms : List Cell) → length (around f s c o ms) ≡ length ms
around_long f s c None ms = length-map ms (zeroed s.adjust)
around_long f s c (Some e) ms = walked_long f s (base_at f c e) (start s c (base_at f c e)) ms

module _ (f : FaceMeaning) (s : Settings) (rows : List SignRow) (ps : List Position) (long : length ps ≡ length rows) where
  abbrev pub goal : List Position
  goal = positions_of (placed_line f s (cells rows ps))

  -- at a base, or at the end: what is before is placed, and the rest is as it was
  pub record Reached (i : ℕ) (l : List Position) : Type 0 where
    pub within : i ≤ length rows
    pub opens : Opens (drop i (cells rows ps))
    pub placed : take i l ++ positions_of (placed_line f s (drop i (cells rows ps))) ≡ goal
    pub rest : drop i l ≡ drop i ps

  pub reached_first : (i : ℕ) → i ≡ marks rows → i ≤ length rows → Reached i ps
  reached_first i e h =
      let cs : List Cell = cells rows ps in
      let lead = leading_marks f s (take (marks rows) cs) (drop (marks rows) cs) (all_marks rows ps long) in
      let whole = take-append-drop (marks rows) cs in
      let join = map-append (λ (c : Cell). c.position) (take (marks rows) cs) (placed_line f s (drop (marks rows) cs)) in
      let front : positions_of (take (marks rows) cs) ≡ take (marks rows) ps =
      ap positions_of (sym (cells_take (marks rows) rows ps)) ∙ cells_positions (take (marks rows) rows) (take (marks rows) ps) (length-take-le (marks rows) ps (omega arith) ∙ sym (length-take-le (marks rows) rows (omega arith))) in
      let done : take (marks rows) ps ++ positions_of (placed_line f s (drop (marks rows) cs)) ≡ goal =
      ap (λ x. x ++ positions_of (placed_line f s (drop (marks rows) cs))) (sym front) ∙ sym join ∙ ap positions_of (sym lead) ∙ ap (λ x. positions_of (placed_line f s x)) whole in
      record {
        within = h;
        opens = subst (λ (n : ℕ). Opens (drop n cs)) (sym e) (opens_after rows ps long);
        placed = subst (λ (n : ℕ). take n ps ++ positions_of (placed_line f s (drop n cs)) ≡ goal) (sym e) done;
        rest = refl;
      }

  module _ (i j : ℕ) (l zs : List Position) (h : i < length rows) (at : j ≡ i + 1 + marks (drop (i + 1) rows)) (end : j ≤ length rows) (same : length l ≡ length ps) (r : Reached i l) where
    cs : List Cell
    cs = cells rows ps

    pub reached_more : zs ≡ positions_of (group f s (cells (take (j - i) (drop i rows)) (take (j - i) (drop i l)))) → Reached j (put_mid i (j - i) l zs)
    unfolding cs
    reached_more e =
        let m : ℕ = marks (drop (i + 1) rows) in
        let longer = cells_long rows ps long in
        let x : Cell = get_or cs i (cell blank nowhere) in
        let ms : List Cell = take m (drop (i + 1) cs) in
        let more : List Cell = drop j cs in
        let first : drop i cs ≡ x ∷ drop (i + 1) cs = drop_more cs i (cell blank nowhere) (omega arith) in
        let past : drop m (drop (i + 1) cs) ≡ more = drop-drop m (i + 1) cs ∙ ap (λ (n : ℕ). drop n cs) (sym at) in
        let split : drop (i + 1) cs ≡ ms ++ more = sym (take-append-drop m (drop (i + 1) cs)) ∙ ap (λ y. ms ++ y) past in
        let parted = cells_drop (i + 1) rows ps in
        let after : length (drop (i + 1) ps) ≡ length (drop (i + 1) rows) = length-drop (i + 1) ps ∙ ap (λ (n : ℕ). n - (i + 1)) long ∙ sym (length-drop (i + 1) rows) in
        let is_base : is_mark x.row ≡ false = subst Opens first r.opens in
        let are_marks : AllByRecursion IsMark ms = subst (λ (y : List Cell). AllByRecursion IsMark (take m y)) parted (all_marks (drop (i + 1) rows) (drop (i + 1) ps) after) in
        let opens : Opens more = subst Opens (ap (drop m) parted ∙ past) (opens_after (drop (i + 1) rows) (drop (i + 1) ps) after) in
        let placed : placed_line f s (drop i cs) ≡ group f s (x ∷ ms) ++ placed_line f s more =
        ap (placed_line f s) (first ∙ ap (λ y. x ∷ y) split) ∙ one_group f s x ms more is_base are_marks opens in
        let size : j - i ≡ suc m = omega arith in
        let part : cells (take (j - i) (drop i rows)) (take (j - i) (drop i l)) ≡ x ∷ ms =
        ap (λ y. cells (take (j - i) (drop i rows)) (take (j - i) y)) r.rest ∙ cells_take (j - i) (drop i rows) (drop i ps) ∙ ap (take (j - i)) (cells_drop i rows ps) ∙ ap (λ (n : ℕ). take n (drop i cs)) size ∙ ap (take (suc m)) first in
        let written : zs ≡ positions_of (group f s (x ∷ ms)) = e ∙ ap (λ y. positions_of (group f s y)) part in
        let ms-long : length ms ≡ m = length-take-le m (drop (i + 1) cs) (omega (arith, length-drop (i + 1) cs)) in
        let zs-long : length zs ≡ suc m = ap length written ∙ length-map (group f s (x ∷ ms)) (λ (c : Cell). c.position) ∙ ap suc (around_long f s x _ ms ∙ ms-long) in
        let front : length (take i l ++ zs) ≡ j = length-append (take i l) zs ∙ omega (arith, length-take-le i l (omega arith)) in
        let tail : drop (j - i) (drop i l) ≡ drop j ps = ap (drop (j - i)) r.rest ∙ drop-drop (j - i) i ps ∙ ap (λ (n : ℕ). drop n ps) (omega arith) in
        let whole : put_mid i (j - i) l zs ≡ (take i l ++ zs) ++ drop j ps = ap (λ y. take i l ++ (zs ++ y)) tail ∙ sym (append_assoc (take i l) zs (drop j ps)) in
        let join = map-append (λ (c : Cell). c.position) (group f s (x ∷ ms)) (placed_line f s more) in
        let done : (take i l ++ zs) ++ positions_of (placed_line f s more) ≡ goal =
        append_assoc (take i l) zs (positions_of (placed_line f s more))
        ∙ ap (λ y. take i l ++ (y ++ positions_of (placed_line f s more))) written
        ∙ ap (λ y. take i l ++ y) (sym join ∙ ap positions_of (sym placed))
        ∙ r.placed in
        record {
          within = end;
          opens = opens;
          placed = ap (λ y. take j y ++ positions_of (placed_line f s more)) whole ∙ ap (λ y. y ++ positions_of (placed_line f s more)) (take_at (take i l ++ zs) (drop j ps) j front) ∙ done;
          rest = ap (drop j) whole ∙ drop_at (take i l ++ zs) (drop j ps) j front;
        }

  pub reached_all : (i : ℕ) (l : List Position) → length rows ≤ i → length l ≡ length ps → Reached i l → l ≡ goal
  reached_all i l h same r =
      let none : drop i (cells rows ps) ≡ [] = drop_all i (cells rows ps) (omega (arith, cells_long rows ps long)) in
      sym (ap (λ y. take i l ++ positions_of (placed_line f s y)) none ∙ append-nil (take i l) ∙ take_all i l (omega arith)) ∙ r.placed
