-- Drawing has an item for each cell.
use Rattle.std.proofs.Common.{◌≡◌, ℕ, suc, Bool, true, false, cond, List, [], ◌∷◌, reverse, length, ℤ, ◌+ℤ◌, refl, ap, ◌∙◌}
use Rattle.std.proofs.lemmas.List.{length-reverse}
use Rattle.placement.specs.Lines.{Cell}
use Rattle.looks.specs.Drawing.{numbered, penned}

pub penned_length : (x y : ℤ) (ns : List (ℕ × Cell)) → length (penned x y ns) ≡ length ns
penned_length x y [] = refl
penned_length x y (n ∷ ns) = ap suc (penned_length (x +ℤ n.1.position.x_advance) (y +ℤ n.1.position.y_advance) ns)

pub numbered_length : (i : ℕ) (cs : List Cell) → length (numbered i cs) ≡ length cs
numbered_length i [] = refl
numbered_length i (c ∷ cs) = ap suc (numbered_length (suc i) cs)

pub order_length : (forward : Bool) (cs : List Cell) → length (cond forward (numbered 0 cs) (reverse (numbered 0 cs))) ≡ length cs
order_length true cs = numbered_length 0 cs
order_length false cs = length-reverse (numbered 0 cs) ∙ numbered_length 0 cs
