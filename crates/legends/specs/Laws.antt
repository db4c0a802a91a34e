-- What holds after any list of calls.
use Rattle.std.specs.Prelude.{◌≡◌, ℕ, ◌≤◌, true, List, take, nat_le}
use Rattle.faces.specs.Meaning.{FaceMeaning, Keeps}
use Rattle.placement.specs.Bounded.{bounded}
use Rattle.drawings.specs.declared.Item.{Item}
use Rattle.drawings.specs.Laws.{DrawingsStand}
use Rattle.legends.specs.declared.call.Call.{Call}
use Rattle.legends.specs.Book.{book_after}
use Rattle.legends.specs.Last.{Alike}
use Rattle.legends.specs.Leaves.{left_by, routed}
use Rattle.legends.specs.Answers.{fits}
use Rattle.legends.specs.Promise.{Look, from_blank}

-- The lists are in step with the book: they hold its signs, and the route over all of them under its settings.
abbrev pub KeptInStep : Type 0
KeptInStep = (f : FaceMeaning) (n : ℕ) (calls : List Call) → left_by f n calls ≡ routed f n (book_after n calls).settings (book_after n calls).signs

-- Calls that are alike in each place's last accepted put and in the last accepted turn have one book.
abbrev pub OneBook : Type 0
OneBook = (n : ℕ) (calls others : List Call) → Alike n calls others → book_after n others ≡ book_after n calls

-- The lists are as long as the legend, so that they fit it unless it was too long from the first.
abbrev pub Fitting : Type 0
Fitting = (f : FaceMeaning) (n : ℕ) (calls : List Call) → fits (left_by f n calls) ≡ nat_le n 256

-- The lists hold only what a line may hold, so that a look is never refused for that.
abbrev pub Drawable : Type 0
Drawable = (f : FaceMeaning) → Keeps f → (n : ℕ) (calls : List Call) → n ≤ 256 → bounded (left_by f n calls).mapped (left_by f n calls).positions ≡ true

-- Whoever shows the book drawn from blank keeps the promise of a look.
abbrev pub LooksPromise : Type 0
LooksPromise = (f : FaceMeaning) → Keeps f → (n : ℕ) (calls : List Call) (items : List Item) → take n items ≡ from_blank f (book_after n calls) → Look f n calls items

pub record HistoriesStand : Type 0 where
  pub in_step : KeptInStep
  pub one_book : OneBook
  pub fitting : Fitting
  pub drawable : Drawable
  pub promise : LooksPromise
  pub drawings : DrawingsStand
