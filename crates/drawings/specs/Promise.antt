-- The promise of a drawing. Each sign of the book is shown, once and by its own glyph. Where a bar is drawn is all that
-- tells closed from locked, so on a measured base each measured mark above or below stands clear of the base and of the
-- marks of its run before it, and each centred one in the middle of its component. Its words are those of looks.
use Rattle.std.specs.Prelude.{◌≡◌, true, List, ◌∷◌, ◌++◌, length, pos, ◌≤ℤ◌, Some}
use Rattle.signs.specs.declared.SignRow.{SignRow}
use Rattle.faces.specs.Meaning.{FaceMeaning, Edges, Keeps}
use Rattle.placement.specs.declared.Settings.{Settings}
use Rattle.placement.specs.declared.classes.Way.{Way}
use Rattle.placement.specs.Classes.{way}
use Rattle.looks.specs.Signs.{row_class}
use Rattle.looks.specs.Groups.{Marked, base_place, place_after, mark_place}
use Rattle.looks.specs.Runs.{same_run}
use Rattle.looks.specs.Measured.{measure, measure_base}
use Rattle.looks.specs.Shown.{item_of, moved, apart}
use Rattle.looks.specs.Promise as looks
use Rattle.drawings.specs.declared.item.Item.{Item}
use Rattle.drawings.specs.Drawing.{seen_all, look}

module _ (f : FaceMeaning) (s : Settings) (rows : List SignRow) (items : List Item) where
  -- There are as many items as signs, in their turn, and each shows its sign.
  pub record Shown : Type 0 where
    pub as_many : length items ≡ length rows
    pub in_turn : looks.InTurn f s rows (seen_all items)
    pub shows : looks.Shows f s rows (seen_all items)

  -- Between a first sign's box and the mark's there is room for the gaps of the marks stepped to and the heights of those
  -- passed. And the distance is never negative, so the boxes do not overlap.
  pub record Fits (c : Marked rows) (between : List SignRow) (d : Way) (first later : Edges) : Type 0 where
    pub room : looks.Fits f s rows (seen_all items) c between d first later
    pub never_negative : pos 0 ≤ℤ apart d first later

  -- From a measured base to a measured mark of a run above or below it.
  abbrev pub ClearOfBase : Type 0
  ClearOfBase = (c : Marked rows) (d : Way) (base_box mark_box : Edges) → measure_base f c.base ≡ Some base_box → measure f c.mark ≡ Some mark_box → way (row_class c.mark) ≡ Some d
      → Fits c c.marks d (moved (item_of (base_place c) (seen_all items)) base_box) (moved (item_of (mark_place c) (seen_all items)) mark_box)

  -- From an earlier measured mark of the same run, on a measured base.
  abbrev pub ClearOfMarks : Type 0
  ClearOfMarks = (c : Marked rows) (d : Way) (base_box mark_box : Edges) → measure_base f c.base ≡ Some base_box → measure f c.mark ≡ Some mark_box → way (row_class c.mark) ≡ Some d
      → (front : List SignRow) (first : SignRow) (between : List SignRow) (first_box : Edges) → c.marks ≡ front ++ first ∷ between → same_run c.base first between c.mark ≡ true → measure f first ≡ Some first_box
      → Fits c between d (moved (item_of (place_after c front) (seen_all items)) first_box) (moved (item_of (mark_place c) (seen_all items)) mark_box)

  pub record Clear : Type 0 where
    pub clear_of_base : ClearOfBase
    pub clear_of_marks : ClearOfMarks

  -- On a measured base, a centred measured mark stands in the middle of its component.
  abbrev pub InTheMiddle : Type 0
  InTheMiddle = looks.InTheMiddle f s rows (seen_all items)

  pub record Promise : Type 0 where
    pub shown : Shown
    pub clear : Clear
    pub centred : InTheMiddle

-- Every drawing from blank keeps it: any face within its limits, any settings, any rows.
abbrev pub DrawingsKeep : Type 0
DrawingsKeep = (f : FaceMeaning) → Keeps f → (s : Settings) (rows : List SignRow) → Promise f s rows (look f s rows)
