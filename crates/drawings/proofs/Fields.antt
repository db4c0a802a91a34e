-- Pens and items are equal where their numbers are.
use Rattle.std.proofs.Common.{◌≡◌, ℕ, ℤ}
use Rattle.drawings.specs.Drawing.{item}
use Rattle.drawings.specs.Pens.{pen_at}

pub same_pen : {x y u v : ℤ} → x ≡ u → y ≡ v → pen_at x y ≡ pen_at u v
same_pen p q = cc

pub same_item : {place glyph : ℕ} {x y u v : ℤ} → x ≡ u → y ≡ v → item place glyph x y ≡ item place glyph u v
same_item p q = cc
