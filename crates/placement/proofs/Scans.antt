-- A loop along rows and positions that carries a state: each turn makes the next state and writes one position.
use Rattle.std.proofs.Common.{◌≡◌, ℕ, ◌+◌, ◌<◌, ◌≤◌, List, [], ◌∷◌, ◌++◌, length, get_or, take, drop, set, refl, ap, ◌∙◌, append_assoc, arith}
use Rattle.std.proofs.lemmas.List.{take-append-drop, take_more_set, drop-set-lt, drop_more, drop_all}
use Rattle.signs.specs.declared.SignRow.{SignRow}
use Rattle.signs.specs.Rows.{read_row}
use Rattle.placement.specs.declared.position.Position.{Position}
use Rattle.placement.specs.Lines.{Cell, cell, cells, positions_of}

module _ {S : Type 0} (next : S → Cell → S) (out : S → Cell → Cell) where
  -- a list of cells with a state
  abbrev pub run : S → List Cell → List Cell
  run s [] = []
  run s (c ∷ cs) = out s c ∷ run (next s c) cs

  -- the same on the two lists, as a loop writes it
  abbrev pub scan : S → List SignRow → List Position → List Position
  scan s [] ps = ps
  scan s (r ∷ rs) [] = []
  scan s (r ∷ rs) (p ∷ ps) = (out s (cell (read_row r) p)).position ∷ scan (next s (cell (read_row r) p)) rs ps

  pub scan_is : (s : S) (rs : List SignRow) (ps : List Position) → length ps ≡ length rs → scan s rs ps ≡ positions_of (run s (cells rs ps))
  scan_is s [] [] e = refl
  scan_is s [] (p ∷ ps) e = absurd (omega arith)
  scan_is s (r ∷ rs) [] e = refl
  scan_is s (r ∷ rs) (p ∷ ps) e = ap (λ q. (out s (cell (read_row r) p)).position ∷ q) (scan_is (next s (cell (read_row r) p)) rs ps (omega arith))

  -- what is written before i, and the scan along the rest
  abbrev pub going : S → List SignRow → List Position → ℕ → List Position
  going s rs ps i = take i ps ++ scan s (drop i rs) (drop i ps)

  pub scan_more : (s : S) (rs : List SignRow) (ps : List Position) (i : ℕ) (r : SignRow) (p : Position) → i < length rs → i < length ps
      → going (next s (cell (read_row (get_or rs i r)) (get_or ps i p))) rs (set ps i (out s (cell (read_row (get_or rs i r)) (get_or ps i p))).position) (i + 1) ≡ going s rs ps i
  scan_more s rs ps i r p hr hp =
      let x : SignRow = get_or rs i r in
      let y : Position = get_or ps i p in
      let c : Cell = cell (read_row x) y in
      let w : Position = (out s c).position in
      let e1 : take (i + 1) (set ps i w) ≡ take i ps ++ w ∷ [] = take_more_set ps i w hp in
      let e2 : drop (i + 1) (set ps i w) ≡ drop (i + 1) ps = drop-set-lt (i + 1) ps i w (omega arith) in
      let e3 : drop i rs ≡ x ∷ drop (i + 1) rs = drop_more rs i r hr in
      let e4 : drop i ps ≡ y ∷ drop (i + 1) ps = drop_more ps i p hp in
      let rest : List Position = scan (next s c) (drop (i + 1) rs) (drop (i + 1) ps) in
      let e5 : scan s (x ∷ drop (i + 1) rs) (y ∷ drop (i + 1) ps) ≡ w ∷ rest = refl in
      let e6 : (take i ps ++ w ∷ []) ++ rest ≡ take i ps ++ w ∷ rest = append_assoc (take i ps) (w ∷ []) rest in
      cc

  pub scan_all : (s : S) (rs : List SignRow) (ps : List Position) (i : ℕ) → length rs ≤ i → going s rs ps i ≡ ps
  scan_all s rs ps i h = ap (λ l. take i ps ++ scan s l (drop i ps)) (drop_all i rs h) ∙ take-append-drop i ps
