-- A box of the code as its four edges, and what making one gives.
use Rattle.std.specs.Prelude.{ℕ, cond, Some, None, Ok, Err, Option, Result}
use Rattle.faces.specs.declared.bounds.Bounds.{Bounds}
use Rattle.faces.specs.Meaning.{Edges, edges}
use Rattle.faces.specs.Straight.{straight}

abbrev pub edges_of : Bounds → Edges
edges_of b = edges b.left b.bottom b.right b.top

abbrev pub box_of : Option Bounds → Option Edges
box_of (Some b) = Some (edges_of b)
box_of None = None

-- the box with these edges, or the number of the refusal
abbrev pub box_outcome : Edges → Result Edges ℕ
box_outcome e = cond (straight e) (Ok e) (Err 3)
