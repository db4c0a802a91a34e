-- What the panel shows: the bar over the letter at 150, 762 when the gate is locked, beneath it at 150, -122 when it is closed,
-- though both bars are glyph 2.
use Rattle.std.specs.Prelude.{◌≡◌, List, [], ◌∷◌, pos, neg_ℤ}
use Rattle.faces.specs.Meaning.{FaceMeaning}
use Rattle.drawings.specs.declared.Item.{Item}
use Rattle.drawings.specs.Drawing.{item}
use Rattle.legends.specs.Book.{book_after}
use Rattle.legends.specs.Promise.{from_blank}
use Rattle.incident.specs.Story.{Told, then_closed}
use Rattle.live.specs.declared.shown.Shown.{Shown}

-- Over any face: the story is told, and its end from blank is what was seen when the gate was closed.
pub record ShownOver (f : FaceMeaning) (s : Shown) : Type 0 where
  pub told : Told f s.story
  pub from_blank_is : s.from_blank ≡ from_blank f (book_after 2 then_closed)
  pub same : s.from_blank ≡ s.story.closed

abbrev pub spaces : List Item
spaces = item 0 3 (pos 0) (pos 0) ∷ item 1 3 (pos 250) (pos 0) ∷ []

abbrev pub letter_alone : List Item
letter_alone = item 0 1 (pos 0) (pos 0) ∷ item 1 3 (pos 600) (pos 0) ∷ []

abbrev pub locked : List Item
locked = item 0 1 (pos 0) (pos 0) ∷ item 1 2 (pos 150) (pos 762) ∷ []

abbrev pub closed : List Item
closed = item 0 1 (pos 0) (pos 0) ∷ item 1 2 (pos 150) (neg_ℤ (pos 122)) ∷ []

abbrev pub turned : List Item
turned = item 1 2 (pos 150) (neg_ℤ (pos 122)) ∷ item 0 1 (pos 0) (pos 0) ∷ []

abbrev pub on_the_panel : Shown
on_the_panel = record { story = record { blank = spaces; letter = letter_alone; locked = locked; closed = closed; turned = turned }; from_blank = closed }
