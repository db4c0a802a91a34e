-- Where the pen stands at a place.
use Rattle.std.proofs.Common.{◌≡◌, ℕ, suc, ◌+◌, ◌<◌, ◌≤◌, Bool, true, false, cond, eqb, List, [], ◌∷◌, ◌++◌, map, reverse, length, ℤ, pos, ◌+ℤ◌, sym, refl, ap, ◌∙◌, subst, arith}
use Rattle.std.specs.List.{range_with_len, AllByRecursion}
use Rattle.std.proofs.lemmas.List.{reverse-append, append_assoc, map-append, length-reverse}
use Rattle.std.proofs.lemmas.Int.{ints}
use Rattle.std.proofs.lemmas.Bool.{ne_eqb, eq-eqb, cond-true, cond-false}
use Rattle.placement.specs.declared.Settings.{Settings}
use Rattle.placement.specs.Directions.{is_forward}
use Rattle.placement.specs.Lines.{Cell}
use Rattle.looks.specs.Drawing.{Item, numbered, penned, drawn, turns}
use Rattle.looks.specs.Shown.{item_of}

-- how far cells move the pen
abbrev pub sum_x : List Cell → ℤ
sum_x [] = pos 0
sum_x (c ∷ cs) = c.position.x_advance +ℤ sum_x cs

abbrev pub sum_y : List Cell → ℤ
sum_y [] = pos 0
sum_y (c ∷ cs) = c.position.y_advance +ℤ sum_y cs

pub sum_x_append : (cs ds : List Cell) → sum_x (cs ++ ds) ≡ sum_x cs +ℤ sum_x ds
sum_x_append [] ds = omega (arith, ints)
sum_x_append (c ∷ cs) ds = let h = sum_x_append cs ds in omega (arith, ints)

pub sum_y_append : (cs ds : List Cell) → sum_y (cs ++ ds) ≡ sum_y cs +ℤ sum_y ds
sum_y_append [] ds = omega (arith, ints)
sum_y_append (c ∷ cs) ds = let h = sum_y_append cs ds in omega (arith, ints)

abbrev pub cells_in : List (ℕ × Cell) → List Cell
cells_in [] = []
cells_in (n ∷ ns) = n.1 ∷ cells_in ns

cells_append : (ns ms : List (ℕ × Cell)) → cells_in (ns ++ ms) ≡ cells_in ns ++ cells_in ms
cells_append [] ms = refl
cells_append (n ∷ ns) ms = ap (λ l. n.1 ∷ l) (cells_append ns ms)

cells_numbered : (i : ℕ) (cs : List Cell) → cells_in (numbered i cs) ≡ cs
cells_numbered i [] = refl
cells_numbered i (c ∷ cs) = ap (λ l. c ∷ l) (cells_numbered (suc i) cs)

reverse_cons : {A : Type 0} (x : A) (xs : List A) → reverse (x ∷ xs) ≡ reverse xs ++ x ∷ []
reverse_cons x xs = reverse-append (x ∷ []) xs

sums_reverse : (ns : List (ℕ × Cell)) → (sum_x (cells_in (reverse ns)) ≡ sum_x (cells_in ns)) × (sum_y (cells_in (reverse ns)) ≡ sum_y (cells_in ns))
sums_reverse [] = (refl, refl)
sums_reverse (n ∷ ns) =
    let e : cells_in (reverse (n ∷ ns)) ≡ cells_in (reverse ns) ++ n.1 ∷ [] = ap cells_in (reverse_cons n ns) ∙ cells_append (reverse ns) (n ∷ []) in
    let h = sums_reverse ns in
    let x = sum_x_append (cells_in (reverse ns)) (n.1 ∷ []) in
    let y = sum_y_append (cells_in (reverse ns)) (n.1 ∷ []) in
    (ap sum_x e ∙ omega (arith, ints, h.0), ap sum_y e ∙ omega (arith, ints, h.1))

numbered_append : (i : ℕ) (cs ds : List Cell) → numbered i (cs ++ ds) ≡ numbered i cs ++ numbered (i + length cs) ds
numbered_append i [] ds = ap (λ k. numbered k ds) (omega arith)
numbered_append i (c ∷ cs) ds =
    let e : suc i + length cs ≡ i + suc (length cs) = omega arith in
    ap (λ l. (i, c) ∷ l) (numbered_append (suc i) cs ds ∙ ap (λ k. numbered (suc i) cs ++ numbered k ds) e)

-- none of them has the place p
abbrev Others : ℕ → List (ℕ × Cell) → Type 0
Others p ns = AllByRecursion (λ n. eqb n.0 p ≡ false) ns

others_below : (p i : ℕ) (cs : List Cell) → i + length cs ≤ p → Others p (numbered i cs)
others_below p i [] h = tt
others_below p i (c ∷ cs) h = (ne_eqb i p (λ e. omega arith), others_below p (suc i) cs (omega arith))

others_above : (p i : ℕ) (cs : List Cell) → p < i → Others p (numbered i cs)
others_above p i [] h = tt
others_above p i (c ∷ cs) h = (ne_eqb i p (λ e. omega arith), others_above p (suc i) cs (omega arith))

others_append : (p : ℕ) (ns ms : List (ℕ × Cell)) → Others p ns → Others p ms → Others p (ns ++ ms)
others_append p [] ms a b = b
others_append p (n ∷ ns) ms a b = (a.0, others_append p ns ms a.1 b)

others_reverse : (p : ℕ) (ns : List (ℕ × Cell)) → Others p ns → Others p (reverse ns)
others_reverse p [] a = tt
others_reverse p (n ∷ ns) a = subst (Others p) (sym (reverse_cons n ns)) (others_append p (reverse ns) (n ∷ []) (others_reverse p ns a.1) (a.0, tt))

-- an item of a place that shows a cell, with the pen at x and y
pub record At (p : ℕ) (i : Item) (x y : ℤ) (c : Cell) : Type 0 where
  pub place_is : i.place ≡ p
  pub glyph_is : i.glyph ≡ c.row.code
  pub x_is : i.x ≡ x +ℤ c.position.x_offset
  pub y_is : i.y ≡ y +ℤ c.position.y_offset

pub at_same : (p : ℕ) (i j : Item) (x y u v : ℤ) (c : Cell) → i ≡ j → x ≡ u → y ≡ v → At p j x y c → At p i u v c
at_same p i j x y u v c e hx hy a = record {
  place_is = ap (λ k. k.place) e ∙ a.place_is;
  glyph_is = ap (λ k. k.glyph) e ∙ a.glyph_is;
  x_is = ap (λ k. k.x) e ∙ a.x_is ∙ ap (λ z. z +ℤ c.position.x_offset) hx;
  y_is = ap (λ k. k.y) e ∙ a.y_is ∙ ap (λ z. z +ℤ c.position.y_offset) hy;
}

penned_at : (ns ms : List (ℕ × Cell)) (p : ℕ) (c : Cell) (x y : ℤ) → Others p ns → At p (item_of p (penned x y (ns ++ (p, c) ∷ ms))) (x +ℤ sum_x (cells_in ns)) (y +ℤ sum_y (cells_in ns)) c
penned_at [] ms p c x y o =
    at_same p _ _ x y _ _ c (cond-true _ _ _ (eq-eqb p p refl)) (omega (arith, ints)) (omega (arith, ints)) (record { place_is = refl; glyph_is = refl; x_is = refl; y_is = refl })
penned_at (a ∷ ns) ms p c x y o =
    at_same p _ _ _ _ _ _ c (cond-false _ _ _ o.0) (omega (arith, ints)) (omega (arith, ints)) (penned_at ns ms p c (x +ℤ a.1.position.x_advance) (y +ℤ a.1.position.y_advance) o.1)

-- what comes before in drawing order
abbrev pub lead : {A : Type 0} → Bool → A → A → A
lead true a b = a
lead false a b = b

-- the item of the place after some cells
pub drawn_at : (s : Settings) (cs : List Cell) (c : Cell) (ds : List Cell) → At (length cs) (item_of (length cs) (drawn s (cs ++ c ∷ ds))) (lead (is_forward s.direction) (sum_x cs) (sum_x ds)) (lead (is_forward s.direction) (sum_y cs) (sum_y ds)) c
drawn_at s cs c ds =
    let p : ℕ = length cs in
    let ns : List (ℕ × Cell) = numbered 0 (cs ++ c ∷ ds) in
    let e : ns ≡ numbered 0 cs ++ (p, c) ∷ numbered (suc p) ds = numbered_append 0 cs (c ∷ ds) ∙ ap (λ k. numbered 0 cs ++ numbered k (c ∷ ds)) (omega arith) in
    let r : reverse ns ≡ reverse (numbered (suc p) ds) ++ (p, c) ∷ reverse (numbered 0 cs) =
    ap reverse e ∙ reverse-append (numbered 0 cs) ((p, c) ∷ numbered (suc p) ds) ∙ ap (λ l. l ++ reverse (numbered 0 cs)) (reverse_cons (p, c) (numbered (suc p) ds)) ∙ append_assoc (reverse (numbered (suc p) ds)) ((p, c) ∷ []) (reverse (numbered 0 cs)) in
    let P : Bool → Type 0 = λ t. At p (item_of p (penned (pos 0) (pos 0) (cond t ns (reverse ns)))) (lead t (sum_x cs) (sum_x ds)) (lead t (sum_y cs) (sum_y ds)) c in
    let up : P true =
    let h = penned_at (numbered 0 cs) (numbered (suc p) ds) p c (pos 0) (pos 0) (others_below p 0 cs (omega arith)) in
    let q = cells_numbered 0 cs in
    let qx = ap sum_x q in
    let qy = ap sum_y q in
    at_same p _ _ _ _ _ _ c (ap (λ l. item_of p (penned (pos 0) (pos 0) l)) e) (omega (arith, ints)) (omega (arith, ints)) h in
    let down : P false =
    let h = penned_at (reverse (numbered (suc p) ds)) (reverse (numbered 0 cs)) p c (pos 0) (pos 0) (others_reverse p (numbered (suc p) ds) (others_above p (suc p) ds (omega arith))) in
    let q = cells_numbered (suc p) ds in
    let v = sums_reverse (numbered (suc p) ds) in
    let qx = v.0 ∙ ap sum_x q in
    let qy = v.1 ∙ ap sum_y q in
    at_same p _ _ _ _ _ _ c (ap (λ l. item_of p (penned (pos 0) (pos 0) l)) r) (omega (arith, ints)) (omega (arith, ints)) h in
    elim (is_forward s.direction) as P [ true ↦ up | false ↦ down ]

penned_length : (x y : ℤ) (ns : List (ℕ × Cell)) → length (penned x y ns) ≡ length ns
penned_length x y [] = refl
penned_length x y (n ∷ ns) = ap suc (penned_length (x +ℤ n.1.position.x_advance) (y +ℤ n.1.position.y_advance) ns)

numbered_length : (i : ℕ) (cs : List Cell) → length (numbered i cs) ≡ length cs
numbered_length i [] = refl
numbered_length i (c ∷ cs) = ap suc (numbered_length (suc i) cs)

pub drawn_length : (s : Settings) (cs : List Cell) → length (drawn s cs) ≡ length cs
drawn_length s cs =
    let ns : List (ℕ × Cell) = numbered 0 cs in
    let P : Bool → Type 0 = λ t. length (cond t ns (reverse ns)) ≡ length cs in
    penned_length (pos 0) (pos 0) (cond (is_forward s.direction) ns (reverse ns)) ∙ elim (is_forward s.direction) as P [ true ↦ numbered_length 0 cs | false ↦ length-reverse ns ∙ numbered_length 0 cs ]

-- the places, in their turn
map_reverse : {X Y : Type 0} (g : X → Y) (xs : List X) → map g (reverse xs) ≡ reverse (map g xs)
map_reverse g [] = refl
map_reverse g (x ∷ xs) = ap (map g) (reverse_cons x xs) ∙ map-append g (reverse xs) (x ∷ []) ∙ ap (λ l. l ++ g x ∷ []) (map_reverse g xs) ∙ sym (reverse_cons (g x) (map g xs))

abbrev places_of : List (ℕ × Cell) → List ℕ
places_of ns = map (λ (n : ℕ × Cell). n.0) ns

penned_places : (x y : ℤ) (ns : List (ℕ × Cell)) → map (λ (i : Item). i.place) (penned x y ns) ≡ places_of ns
penned_places x y [] = refl
penned_places x y (n ∷ ns) = ap (λ l. n.0 ∷ l) (penned_places (x +ℤ n.1.position.x_advance) (y +ℤ n.1.position.y_advance) ns)

numbered_places : (i : ℕ) (cs : List Cell) → places_of (numbered i cs) ≡ range_with_len i (length cs)
numbered_places i [] = refl
numbered_places i (c ∷ cs) =
    let e : suc i ≡ i + 1 = omega arith in
    ap (λ l. i ∷ l) (numbered_places (suc i) cs ∙ ap (λ k. range_with_len k (length cs)) e)

pub drawn_places : (s : Settings) (cs : List Cell) → map (λ (i : Item). i.place) (drawn s cs) ≡ turns (is_forward s.direction) (length cs)
drawn_places s cs =
    let ns : List (ℕ × Cell) = numbered 0 cs in
    let P : Bool → Type 0 = λ t. places_of (cond t ns (reverse ns)) ≡ turns t (length cs) in
    penned_places (pos 0) (pos 0) (cond (is_forward s.direction) ns (reverse ns))
    ∙ elim (is_forward s.direction) as P [ true ↦ numbered_places 0 cs | false ↦ map_reverse (λ (n : ℕ × Cell). n.0) ns ∙ ap reverse (numbered_places 0 cs) ]
