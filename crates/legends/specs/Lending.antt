-- How much of each list a call is lent.
use Rattle.std.specs.Prelude.{ℕ}
use Rattle.legends.specs.declared.call.Call.{Call}
use Rattle.legends.specs.declared.call.Call.TheVariants.{Put, Turn, Draw}

abbrev pub lent_of : Call → ℕ
lent_of (Put lent place row) = lent
lent_of (Turn lent settings) = lent
lent_of (Draw lent room) = lent
