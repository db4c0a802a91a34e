-- Spaces: a space that is no ligature gets an advance by its type.
use Rattle.std.specs.Prelude.{ℕ, zero, suc, ◌+◌, ◌*◌, ◌/◌, Bool, true, false, cond, not, ◌&&◌, ◌||◌, ℤ, pos, neg_ℤ, Some, None, Option, ◌==◌, int_div, nat_le}
use Rattle.signs.specs.declared.SignRow.{SignRow}
use Rattle.signs.specs.Rows.{is_space, is_ligated, space_type}
use Rattle.faces.specs.Meaning.{FaceMeaning}
use Rattle.placement.specs.declared.position.Position.{Position}
use Rattle.placement.specs.declared.space.Space.{Space}
use Rattle.placement.specs.declared.space.Space.TheVariants.{Fraction, FourEighteenths, Digit, Stop, Half, Own}
use Rattle.placement.specs.declared.settings.Settings.{Settings}
use Rattle.placement.specs.Directions.{is_horizontal}
use Rattle.placement.specs.Lines.{Cell, cell, at}
use Rattle.placement.specs.Mapped.{along}

-- A size along the line: down a vertical line it counts as negative.
abbrev pub size : Bool → ℕ → ℤ
size true n = pos n
size false n = neg_ℤ (pos n)

-- The advance of the first of n codes, from a code on, that has a glyph.
abbrev pub or_next : FaceMeaning → Bool → Option ℕ → Option ℤ → Option ℤ
or_next f h (Some g) next = Some (along f h g)
or_next f h None next = next

abbrev pub first_advance : FaceMeaning → Bool → ℕ → ℕ → Option ℤ
first_advance f h code zero = None
first_advance f h code (suc n) = or_next f h (f.glyph code) (first_advance f h (code + 1) n)

abbrev pub or_else : Option ℤ → Option ℤ → Option ℤ
or_else (Some a) other = Some a
or_else None other = other

-- Types 1 to 6 and 16 are that fraction of the em, 17 four eighteenths, 19 the first digit, 20 the full stop or else the
-- comma.
abbrev pub is_fraction : ℕ → Bool
is_fraction t = (nat_le 1 t && nat_le t 6) || t == 16

abbrev pub own_advance : FaceMeaning → Bool → ℕ → Option ℤ
own_advance f h t =
    cond (is_fraction t) (Some (size h ((f.em + t / 2) / t)))
    (cond (t == 17) (Some (size h (f.em * 4 / 18)))
    (cond (t == 19) (first_advance f h 48 10)
    (cond (t == 20) (or_else (first_advance f h 46 1) (first_advance f h 44 1))
    None)))

-- A position's advance along the line, and the position with another one there.
abbrev pub advance_along : Bool → Position → ℤ
advance_along true p = p.x_advance
advance_along false p = p.y_advance

abbrev pub with_advance : Bool → ℤ → Position → Position
with_advance true a p = at a p.y_advance p.x_offset p.y_offset
with_advance false a p = at p.x_advance a p.x_offset p.y_offset

abbrev pub halved_along : Bool → Position → Position
halved_along h p = with_advance h (int_div (advance_along h p) (pos 2)) p

abbrev pub with_own : Bool → Option ℤ → Position → Position
with_own h (Some a) p = with_advance h a p
with_own h None p = p

-- Type 21 is half of what the space has; one with no advance of its own keeps what it has.
abbrev pub respaced : FaceMeaning → Bool → ℕ → Position → Position
respaced f h t p = cond (t == 21) (halved_along h p) (with_own h (own_advance f h t) p)

-- The same by kinds of spaces: what the number of a type says, and the advance of a space of that kind.
abbrev pub kind : ℕ → Space
kind t =
    cond (t == 21) Half
    (cond (is_fraction t) (Fraction t)
    (cond (t == 17) FourEighteenths
    (cond (t == 19) Digit
    (cond (t == 20) Stop
    Own))))

abbrev pub advance_by : FaceMeaning → Bool → Position → Space → Option ℤ
advance_by f h p (Fraction n) = Some (size h ((f.em + n / 2) / n))
advance_by f h p FourEighteenths = Some (size h (f.em * 4 / 18))
advance_by f h p Digit = first_advance f h 48 10
advance_by f h p Stop = or_else (first_advance f h 46 1) (first_advance f h 44 1)
advance_by f h p Half = Some (int_div (advance_along h p) (pos 2))
advance_by f h p Own = None

abbrev pub space_position : FaceMeaning → Bool → SignRow → Position → Position
space_position f h r p = cond (is_space r && not (is_ligated r)) (respaced f h (space_type r) p) p

abbrev pub spaced_along : FaceMeaning → Bool → Cell → Cell
spaced_along f h c = cell c.row (space_position f h c.row c.position)

abbrev pub spaced : FaceMeaning → Settings → Cell → Cell
spaced f s c = spaced_along f (is_horizontal s.direction) c
