-- Items as they are lent are the items of which the laws of looks speak.
use Rattle.std.proofs.Common.{◌≡◌, List, [], ◌∷◌, map, refl, ap}
use Rattle.looks.specs.Drawing.{Item, drawn, look}
use Rattle.drawings.specs.Drawing.{seen_all, lent_item}
use Rattle.drawings.specs.Laws.{DrawnAsLooks, SeenAsLooks}

seen_rows : (items : List Item) → seen_all (map lent_item items) ≡ items
seen_rows [] = refl
seen_rows (i ∷ items) = ap (λ l. i ∷ l) (seen_rows items)

pub seen_drawn : DrawnAsLooks
seen_drawn s cs = seen_rows (drawn s cs)

pub seen_look : SeenAsLooks
seen_look f s rows = seen_rows (look f s rows)
