-- The items of a drawing, one by one in drawing order.
use Rattle.std.proofs.Common.{◌≡◌, ℕ, zero, suc, ◌+◌, ◌-◌, ◌<◌, ◌≤◌, Bool, true, false, cond, List, [], ◌∷◌, ◌++◌, map, reverse, length, pos, get_or, take, drop, set, sym, refl, ap, ◌∙◌, append_assoc, arith}
use Rattle.std.proofs.lemmas.List.{take_more, drop_more, set_at, length-take-le, length-map, get_or-reverse}
use Rattle.signs.specs.declared.SignRow.{SignRow}
use Rattle.placement.specs.declared.Position.{Position}
use Rattle.placement.specs.Lines.{Cell, cell}
use Rattle.drawings.specs.declared.item.Item.{Item}
use Rattle.drawings.specs.declared.pen.Pen.{Pen}
use Rattle.looks.specs.Drawing.{numbered, penned}
use Rattle.drawings.specs.Drawing.{lent_item, drawn_in, side}
use Rattle.drawings.specs.Pens.{start, move_pen, item_at, item_in_turn, place_at, no_row, nowhere, pen_after}
use Rattle.drawings.proofs.Lengths.{penned_length, numbered_length, order_length}

-- a list that is written place by place over another, the rest staying
pub into_more : {X : Type 0} (goal ys zs : List X) (k : ℕ) (y : X) → k < length goal → length goal ≤ length ys
    → zs ≡ take k goal ++ drop k ys → y ≡ get_or goal k y → set zs k y ≡ take (k + 1) goal ++ drop (k + 1) ys
into_more goal ys zs k y h n e v =
    let split = drop_more ys k y (omega arith) in
    let here = set_at (take k goal) (get_or ys k y) (drop (k + 1) ys) y k (length-take-le k goal (omega arith)) in
    let more = take_more goal k y h in
    let assoc = append_assoc (take k goal) (y ∷ []) (drop (k + 1) ys) in
    cc

abbrev no_cell : Cell
no_cell = cell no_row nowhere

abbrev none : ℕ × Cell
none = (0, no_cell)

numbered_at : (j : ℕ) (cs : List Cell) (k : ℕ) → k < length cs → get_or (numbered j cs) k none ≡ (j + k, get_or cs k no_cell)
numbered_at j [] k h = absurd (omega arith)
numbered_at j (c ∷ cs) zero h = let e : j ≡ j + 0 = omega arith in ap (λ q. (q, c)) e
numbered_at j (c ∷ cs) (suc k) h =
    let e : suc j + k ≡ j + suc k = omega arith in
    numbered_at (suc j) cs k (omega arith) ∙ ap (λ q. (q, get_or cs k no_cell)) e

module _ (forward : Bool) (cs : List Cell) where
  abbrev in_order : List (ℕ × Cell)
  in_order = cond forward (numbered 0 cs) (reverse (numbered 0 cs))

  order_at : (k : ℕ) → k < length cs → get_or in_order k none ≡ (place_at forward (length cs) k, get_or cs (place_at forward (length cs) k) no_cell)
  order_at k h =
      elim forward as (λ t. get_or (cond t (numbered 0 cs) (reverse (numbered 0 cs))) k none ≡ (place_at t (length cs) k, get_or cs (place_at t (length cs) k) no_cell))
      [ true ↦ up k h | false ↦ down ]
    where
      up : (q : ℕ) → q < length cs → get_or (numbered 0 cs) q none ≡ (q, get_or cs q no_cell)
      up q l = let e : 0 + q ≡ q = omega arith in numbered_at 0 cs q l ∙ ap (λ w. (w, get_or cs q no_cell)) e

      down : get_or (reverse (numbered 0 cs)) k none ≡ (length cs - 1 - k, get_or cs (length cs - 1 - k) no_cell)
      down =
          let l = numbered_length 0 cs in
          get_or-reverse (numbered 0 cs) k none (omega arith) ∙ ap (λ w. get_or (numbered 0 cs) (w - 1 - k) none) l ∙ up (length cs - 1 - k) (omega arith)

-- where some cells move the pen
abbrev along : Pen → List (ℕ × Cell) → Pen
along pen [] = pen
along pen (n ∷ ns) = along (move_pen pen n.1.position) ns

along_push : (pen : Pen) (ns : List (ℕ × Cell)) (n : ℕ × Cell) → along pen (ns ++ n ∷ []) ≡ move_pen (along pen ns) n.1.position
along_push pen [] n = refl
along_push pen (m ∷ ns) n = along_push (move_pen pen m.1.position) ns n

abbrev item_on : Pen → ℕ × Cell → Item
item_on pen n = item_at pen n.0 n.1.row n.1.position

penned_at : (pen : Pen) (ns : List (ℕ × Cell)) (k : ℕ) (d : Item) → k < length ns → get_or (map lent_item (penned pen.x pen.y ns)) k d ≡ item_on (along pen (take k ns)) (get_or ns k none)
penned_at pen [] k d h = absurd (omega arith)
penned_at pen (n ∷ ns) zero d h = refl
penned_at pen (n ∷ ns) (suc k) d h = penned_at (move_pen pen n.1.position) ns k d (omega arith)

side_at : (rows : List SignRow) (ps : List Position) → length ps ≡ length rows → (k : ℕ) → get_or (side rows ps) k no_cell ≡ cell (get_or rows k no_row) (get_or ps k nowhere)
side_at [] [] long k = refl
side_at [] (p ∷ ps) long k = absurd (omega arith)
side_at (r ∷ rs) [] long k = absurd (omega arith)
side_at (r ∷ rs) (p ∷ ps) long zero = refl
side_at (r ∷ rs) (p ∷ ps) long (suc k) = side_at rs ps (omega arith) k

side_length : (rows : List SignRow) (ps : List Position) → length ps ≡ length rows → length (side rows ps) ≡ length ps
side_length [] [] long = refl
side_length [] (p ∷ ps) long = absurd (omega arith)
side_length (r ∷ rs) [] long = refl
side_length (r ∷ rs) (p ∷ ps) long = ap suc (side_length rs ps (omega arith))

module _ (forward : Bool) (rows : List SignRow) (ps : List Position) (long : length ps ≡ length rows) where
  abbrev cells : List Cell
  cells = side rows ps

  order_long : length (in_order forward cells) ≡ length ps
  order_long = order_length forward cells ∙ side_length rows ps long

  pub drawing_length : length (drawn_in forward cells) ≡ length ps
  drawing_length = length-map (penned (pos 0) (pos 0) (in_order forward cells)) lent_item ∙ penned_length _ _ (in_order forward cells) ∙ order_long

  -- the place that is drawn after k others, and what stands there
  abbrev place : ℕ → ℕ
  place k = place_at forward (length ps) k

  turn_is : (k : ℕ) → k < length ps → get_or (in_order forward cells) k none ≡ (place k, cell (get_or rows (place k) no_row) (get_or ps (place k) nowhere))
  turn_is k h =
      let l = side_length rows ps long in
      order_at forward cells k (omega arith)
      ∙ ap (λ n. (place_at forward n k, get_or cells (place_at forward n k) no_cell)) l
      ∙ ap (λ (c : Cell). (place k, c)) (side_at rows ps long (place k))

  pens_are : (k : ℕ) → k ≤ length ps → pen_after forward ps k ≡ along start (take k (in_order forward cells))
  pens_are zero h = refl
  pens_are (suc k) h =
      let l = order_long in
      let t = take_more (in_order forward cells) k none (omega arith) in
      let o = ap (λ (n : ℕ × Cell). n.1.position) (turn_is k (omega arith)) in
      let m = along_push start (take k (in_order forward cells)) (get_or (in_order forward cells) k none) in
      let e : k + 1 ≡ suc k = omega arith in
      ap (λ q. move_pen q (get_or ps (place k) nowhere)) (pens_are k (omega arith))
      ∙ ap (move_pen (along start (take k (in_order forward cells)))) (sym o)
      ∙ sym m ∙ ap (along start) (sym t) ∙ ap (λ q. along start (take q (in_order forward cells))) e

  -- what is drawn after k others
  pub turn_drawn : (k : ℕ) (d : Item) → k < length ps → get_or (drawn_in forward cells) k d ≡ item_in_turn forward rows ps k
  turn_drawn k d h =
      let l = order_long in
      penned_at start (in_order forward cells) k d (omega arith)
      ∙ ap (λ q. item_on q (get_or (in_order forward cells) k none)) (sym (pens_are k (omega arith)))
      ∙ ap (item_on (pen_after forward ps k)) (turn_is k h)
