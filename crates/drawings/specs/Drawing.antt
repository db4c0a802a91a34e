-- What is drawn of a line, as rows that a caller lends: the items of looks, one by one.
use Rattle.std.specs.Prelude.{ℕ, Bool, cond, List, [], ◌∷◌, ◌++◌, map, reverse, length, drop, ℤ, pos}
use Rattle.signs.specs.declared.SignRow.{SignRow}
use Rattle.faces.specs.Meaning.{FaceMeaning}
use Rattle.placement.specs.declared.Position.{Position}
use Rattle.placement.specs.declared.Settings.{Settings}
use Rattle.placement.specs.Directions.{is_forward}
use Rattle.placement.specs.Lines.{Cell, cell}
use Rattle.placement.specs.Route.{route}
use Rattle.looks.specs.Drawing.{Item as LookItem, item as look_item, numbered, penned}
use Rattle.drawings.specs.declared.item.Item.{Item}

-- The glyph of a place, at a point.
abbrev pub item : ℕ → ℕ → ℤ → ℤ → Item
item p g x y = record { place = p; glyph = g; x = x; y = y }

-- An item as the laws of looks speak of it, and one of theirs as a caller lends it.
abbrev pub seen : Item → LookItem
seen i = look_item i.place i.glyph i.x i.y

abbrev pub seen_all : List Item → List LookItem
seen_all items = map seen items

abbrev pub lent_item : LookItem → Item
lent_item i = item i.place i.glyph i.x i.y

-- From the first place up in forward directions, from the last one down otherwise.
abbrev pub drawn_in : Bool → List Cell → List Item
drawn_in forward cs = map lent_item (penned (pos 0) (pos 0) (cond forward (numbered 0 cs) (reverse (numbered 0 cs))))

abbrev pub drawn : Settings → List Cell → List Item
drawn s cs = drawn_in (is_forward s.direction) cs

-- A look: the book's rows go their route, and what comes of it is drawn.
abbrev pub look : FaceMeaning → Settings → List SignRow → List Item
look f s rows = drawn s (route f s rows)

-- The cells of two lists, as they stand.
abbrev pub side : List SignRow → List Position → List Cell
side [] ps = []
side (r ∷ rs) [] = []
side (r ∷ rs) (p ∷ ps) = cell r p ∷ side rs ps

-- What drawing leaves in a list of items: the line's items first; entries past them stay.
abbrev pub drawn_over : Settings → List SignRow → List Position → List Item → List Item
drawn_over s rows positions items = drawn s (side rows positions) ++ drop (length rows) items
