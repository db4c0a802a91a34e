-- The promise of a look. A keeper who looks at a panel sees what was last reported, whatever the order and the number of
-- the reports, and sees it clearly. A look is a drawing of a legend of n signs after any list of calls, some of them refused,
-- over any face within its limits; its first n items are what is seen.
use Rattle.std.specs.Prelude.{◌≡◌, ℕ, List, take}
use Rattle.faces.specs.Meaning.{FaceMeaning}
use Rattle.drawings.specs.declared.Item.{Item}
use Rattle.drawings.specs.Drawing.{look}
use Rattle.drawings.specs.Promise.{Shown, Clear, InTheMiddle}
use Rattle.legends.specs.declared.call.Call.{Call}
use Rattle.legends.specs.Book.{Book, book_after}
use Rattle.legends.specs.Last.{Alike}

-- A book drawn from blank: all its signs go their route under its settings, and what comes of it is drawn.
abbrev pub from_blank : FaceMeaning → Book → List Item
from_blank f b = look f b.settings b.signs

pub record Look (f : FaceMeaning) (n : ℕ) (calls : List Call) (items : List Item) : Type 0 where
  -- The items, in their order, are those of the book drawn from blank.
  pub exact : take n items ≡ from_blank f (book_after n calls)
  -- So any calls that are alike, in each place's last accepted put and in the last accepted turn, draw the same items.
  pub alike : (others : List Call) → Alike n calls others → from_blank f (book_after n others) ≡ take n items
  -- Each sign of the book has one item, of its place and with its glyph, in its turn.
  pub shown : Shown f (book_after n calls).settings (book_after n calls).signs (take n items)
  -- On a measured base each measured mark of a run above or below keeps its distance from the base and from the earlier
  -- measured marks of its run: room for the gaps stepped and the heights passed, and never negative.
  pub clear : Clear f (book_after n calls).settings (book_after n calls).signs (take n items)
  -- On a measured base a centred measured mark leaves as much on its left as on its right, within one unit, of the box of
  -- its component.
  pub centred : InTheMiddle f (book_after n calls).settings (book_after n calls).signs (take n items)
