-- What a number found in a character table means: glyph 0, or one above 65535, means none.
use Rattle.std.specs.Prelude.{ℕ, cond, Some, None, Option, ◌==◌, nat_le}

abbrev pub glyph_of : ℕ → Option ℕ
glyph_of g = cond (g == 0) None (cond (nat_le g 65535) (Some g) None)

abbrev pub then : {A B : Type 0} → Option A → (A → Option B) → Option B
then None f = None
then (Some x) f = f x
