-- Structs of numbers are equal where their fields are.
use Rattle.std.proofs.Common.{◌≡◌, ℕ, ℤ}
use Rattle.placement.specs.declared.extents.Extents.{Extents}
use Rattle.placement.specs.declared.walk.Walk.{Walk}
use Rattle.placement.specs.Lines.{at}

abbrev pub box : ℤ → ℤ → ℤ → ℤ → Extents
box l w b t = record { left = l; width = w; bottom = b; top = t }

abbrev pub walk : ℤ → ℤ → ℕ → ℕ → Extents → Extents → Walk
walk x y k c a r = record { x = x; y = y; component = k; class = c; around = a; run = r }

pub same_box : {l w b t x y u v : ℤ} → l ≡ x → w ≡ y → b ≡ u → t ≡ v → box l w b t ≡ box x y u v
same_box p q r s = cc

pub same_at : {l w b t x y u v : ℤ} → l ≡ x → w ≡ y → b ≡ u → t ≡ v → at l w b t ≡ at x y u v
same_at p q r s = cc

pub same_walk : {x y u v : ℤ} {k c j h : ℕ} {a r d e : Extents} → x ≡ u → y ≡ v → k ≡ j → c ≡ h → a ≡ d → r ≡ e → walk x y k c a r ≡ walk u v j h d e
same_walk p q i o r s = cc
