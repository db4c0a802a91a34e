-- Every drawing from blank keeps the promise, and is the look of which the laws and the worked facts of looks speak; and two
-- lists of a line are drawn sign by sign, each in its turn.
use Rattle.std.specs.Prelude.{◌≡◌, ℕ, ◌<◌, Bool, List, length, slice_index_or}
use Rattle.signs.specs.declared.SignRow.{SignRow}
use Rattle.placement.specs.declared.Position.{Position}
use Rattle.placement.specs.declared.Settings.{Settings}
use Rattle.placement.specs.Lines.{Cell, rows_of, positions_of}
use Rattle.faces.specs.Meaning.{FaceMeaning}
use Rattle.looks.specs.Drawing as looks
use Rattle.looks.specs.Laws.{LooksStand}
use Rattle.drawings.specs.declared.item.Item.{Item}
use Rattle.drawings.specs.Drawing.{seen_all, drawn, drawn_in, look, side}
use Rattle.drawings.specs.Pens.{item_in_turn}
use Rattle.drawings.specs.Promise.{DrawingsKeep}

-- The items that are lent are those of looks, one by one: of any cells that are drawn, and of any book drawn from blank.
abbrev pub DrawnAsLooks : Type 0
DrawnAsLooks = (s : Settings) (cs : List Cell) → seen_all (drawn s cs) ≡ looks.drawn s cs

abbrev pub SeenAsLooks : Type 0
SeenAsLooks = (f : FaceMeaning) (s : Settings) (rows : List SignRow) → seen_all (look f s rows) ≡ looks.look f s rows

-- The rows and the positions of a line's cells, side by side, are those cells.
abbrev pub SideBySide : Type 0
SideBySide = (cs : List Cell) → side (rows_of cs) (positions_of cs) ≡ cs

-- There are as many items as signs; what is drawn after k others is the item of its place, at the pen after k signs.
pub record InTurn (forward : Bool) (rows : List SignRow) (ps : List Position) : Type 0 where
  pub as_many : length (drawn_in forward (side rows ps)) ≡ length ps
  pub each : (k : ℕ) (d : Item) → k < length ps → slice_index_or (drawn_in forward (side rows ps)) k d ≡ item_in_turn forward rows ps k

abbrev pub TurnByTurn : Type 0
TurnByTurn = (forward : Bool) (rows : List SignRow) (ps : List Position) → length ps ≡ length rows → InTurn forward rows ps

pub record DrawingsStand : Type 0 where
  pub looks : LooksStand
  pub drawn_as_looks : DrawnAsLooks
  pub seen_as_looks : SeenAsLooks
  pub promise : DrawingsKeep
  pub side_by_side : SideBySide
  pub turn_by_turn : TurnByTurn
