-- Which four edges make a box.
use Rattle.std.specs.Prelude.{Bool, ◌&&◌, int_le}
use Rattle.faces.specs.Meaning.{Edges}

-- left at most right, bottom at most top
abbrev pub straight : Edges → Bool
straight e = int_le e.left e.right && int_le e.bottom e.top
