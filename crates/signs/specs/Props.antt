-- The category and the class in the properties of a sign, and which properties a sign may have.
use Rattle.std.specs.Prelude.{ℕ, ◌/◌, ◌%◌, Bool, cond, not, ◌&&◌, ◌||◌, nat_le}

-- The low five bits: the general category, 0 to 29.
abbrev pub category_of : ℕ → ℕ
category_of p = p % 32

-- The high byte: of a mark its combining class, of a space its type.
abbrev pub class_of : ℕ → ℕ
class_of p = p / 256

-- A mark is spacing (10), enclosing (11) or nonspacing (12).
abbrev pub is_mark_of : ℕ → Bool
is_mark_of p = nat_le 10 (category_of p) && nat_le (category_of p) 12

-- There is no category 30 or 31, and no mark of class 255.
abbrev pub has_category : ℕ → Bool
has_category p = nat_le (category_of p) 29

abbrev pub has_class : ℕ → Bool
has_class p = not (is_mark_of p) || nat_le (class_of p) 254

-- The properties that a sign may have.
abbrev pub is_allowed : ℕ → Bool
is_allowed p = has_category p && has_class p

-- The properties as they are read: those that no sign may have count as 4637, a space of type 18.
abbrev pub read_props : ℕ → ℕ
read_props p = cond (is_allowed p) p 4637
