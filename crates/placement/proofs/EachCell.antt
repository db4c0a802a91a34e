-- A loop that writes each position by itself.
use Rattle.std.proofs.Common.{◌≡◌, ℕ, ◌≤◌, List, [], ◌∷◌, map, length, sym, refl, ap, ◌∙◌}
use Rattle.signs.specs.declared.SignRow.{SignRow}
use Rattle.placement.specs.declared.position.Position.{Position}
use Rattle.placement.specs.Lines.{Cell, cells, positions_of}
use Rattle.placement.proofs.Scans.{run, scan_is, going, scan_all}

module _ (out : Cell → Cell) where
  abbrev still : Unit {0} → Cell → Unit {0}
  still s c = s

  abbrev by : Unit {0} → Cell → Cell
  by s c = out c

  -- the positions before i are written, and those after it are as they were
  abbrev pub written : List SignRow → List Position → ℕ → List Position
  written rs ps i = going still by tt rs ps i

  run_map : (cs : List Cell) → run still by tt cs ≡ map out cs
  run_map [] = refl
  run_map (c ∷ cs) = ap (λ q. out c ∷ q) (run_map cs)

  pub written_all : (rs : List SignRow) (ps before : List Position) (i : ℕ) → length rs ≤ i → length before ≡ length rs
      → written rs ps i ≡ written rs before 0 → ps ≡ positions_of (map out (cells rs before))
  written_all rs ps before i h long inv =
      sym (scan_all still by tt rs ps i h) ∙ inv ∙ scan_is still by tt rs before long ∙ ap positions_of (run_map (cells rs before))
