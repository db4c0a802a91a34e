-- What holds of a legend, its lists and the room to draw in after some calls, all of them carried out on what was lent at first.
use Rattle.std.proofs.Common.{◌≡◌, ℕ, List, drop}
use Rattle.faces.specs.Meaning.{FaceMeaning}
use Rattle.drawings.specs.declared.Room.{Room}
use Rattle.drawings.specs.DrawAnswers.{SameRoom}
use Rattle.legends.specs.declared.legend.Legend.{Legend}
use Rattle.legends.specs.declared.lists.Lists.{Lists}
use Rattle.legends.specs.declared.call.Call.{Call}
use Rattle.legends.specs.Leaves.{left_by}
use Rattle.legends.specs.Lent.{SameLists, state_of}

pub record SoFar (f : FaceMeaning) (n : ℕ) (calls : List Call) (legend : Legend) (first lists : Lists) (given room : Room) : Type 0 where
  pub left : state_of legend lists ≡ left_by f n calls
  -- entries past the signs stand as they did
  pub past : drop n room.items.now ≡ drop n given.items.now
  pub same : SameLists first lists
  pub same_room : SameRoom given room
