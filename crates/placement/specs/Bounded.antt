-- What a line may hold: glyphs of up to 65535, advances of up to 65535 units and offsets of up to 40000000 either way.
use Rattle.std.specs.Prelude.{ℕ, Bool, ◌&&◌, List, ℤ, pos, neg_ℤ, int_le, nat_le}
use Rattle.std.specs.List.{list_all}
use Rattle.signs.specs.declared.SignRow.{SignRow}
use Rattle.placement.specs.declared.position.Position.{Position}

abbrev pub inside : ℕ → ℤ → Bool
inside n z = int_le (neg_ℤ (pos n)) z && int_le z (pos n)

abbrev pub bounded_row : SignRow → Bool
bounded_row r = nat_le r.code 65535

abbrev pub bounded_position : Position → Bool
bounded_position p = inside 65535 p.x_advance && (inside 65535 p.y_advance && (inside 40000000 p.x_offset && inside 40000000 p.y_offset))

abbrev pub bounded : List SignRow → List Position → Bool
bounded rows positions = list_all bounded_row rows && list_all bounded_position positions
