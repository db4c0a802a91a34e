-- Pens and items are equal where their fields are.
use Rattle.std.proofs.Common.{◌≡◌, ℕ, ℤ}
use Rattle.answer.specs.declared.pen.Item.{Item}
use Rattle.answer.specs.Pens.{pen_at}

abbrev pub item : ℕ → ℕ → ℤ → ℤ → Item
item k g x y = record { place = k; glyph = g; x = x; y = y }

pub same_pen : {x y u v : ℤ} → x ≡ u → y ≡ v → pen_at x y ≡ pen_at u v
same_pen p q = cc

pub same_item : {k g : ℕ} {x y u v : ℤ} → x ≡ u → y ≡ v → item k g x y ≡ item k g u v
same_item p q = cc
