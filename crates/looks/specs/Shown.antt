-- What a drawing shows: where the box of a glyph lies on the panel, and how far two boxes stand apart. All of it is read
-- off the items, by their places.
use Rattle.std.specs.Prelude.{ℕ, cond, List, [], ◌∷◌, ℤ, pos, ◌+ℤ◌, ◌-ℤ◌, ◌==◌}
use Rattle.faces.specs.Meaning.{Edges, edges}
use Rattle.placement.specs.declared.classes.Way.{Way}
use Rattle.placement.specs.declared.classes.Way.TheVariants.{Above, Below}
use Rattle.looks.specs.Shares.{Sides}
use Rattle.looks.specs.Drawing.{Item, item}

-- The item of a place.
abbrev pub nowhere : Item
nowhere = item 0 0 (pos 0) (pos 0)

abbrev pub item_of : ℕ → List Item → Item
item_of p [] = nowhere
item_of p (i ∷ is) = cond (i.place == p) i (item_of p is)

-- A box, moved to where an item is drawn.
abbrev pub moved : Item → Edges → Edges
moved i e = edges (i.x +ℤ e.left) (i.y +ℤ e.bottom) (i.x +ℤ e.right) (i.y +ℤ e.top)

-- Above: from the upper edge of the first box to the lower edge of the later one; below, mirrored.
abbrev pub apart : Way → Edges → Edges → ℤ
apart Above a z = z.bottom -ℤ a.top
apart Below a z = a.bottom -ℤ z.top

-- The room that a box leaves on its left and on its right, within the sides of a component drawn at an item.
abbrev pub left_room : Item → Sides → Edges → ℤ
left_room i k e = e.left -ℤ (i.x +ℤ k.left)

abbrev pub right_room : Item → Sides → Edges → ℤ
right_room i k e = (i.x +ℤ k.left +ℤ k.width) -ℤ e.right
