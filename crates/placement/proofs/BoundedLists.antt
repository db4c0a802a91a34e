-- Lists that pass the tests of a line are those that hold what a placement needs.
use Rattle.std.proofs.Common.{◌≡◌, ℕ, ◌≤◌, Bool, true, List, [], ◌∷◌, ℤ, pos, neg_ℤ, refl, arith}
use lib.Signed.{le_z}
use Rattle.std.specs.List.{AllByRecursion, list_all}
use Rattle.std.proofs.lemmas.Int.{ints}
use Rattle.std.proofs.lemmas.Bool.{and_parts, and_from, leb-true, le-leb}
use Rattle.signs.specs.declared.SignRow.{SignRow}
use Rattle.placement.specs.declared.position.Position.{Position}
use Rattle.placement.specs.Bounded.{inside, bounded_row, bounded_position, bounded}
use Rattle.placement.specs.Room.{Within, Light, AllLight, AllGlyphs}

inside_within : (n : ℕ) (z : ℤ) → inside n z ≡ true → Within n z
inside_within n z h =
    let p = and_parts (le_z (neg_ℤ (pos n)) z) (le_z z (pos n)) h in
    (omega (arith, ints, p.0), omega (arith, ints, p.1))

light : (p : Position) → bounded_position p ≡ true → Light p
light p h =
    let a = and_parts (inside 65535 p.x_advance) _ h in
    let b = and_parts (inside 65535 p.y_advance) _ a.1 in
    let c = and_parts (inside 40000000 p.x_offset) _ b.1 in
    record { x_advance = inside_within 65535 _ a.0; y_advance = inside_within 65535 _ b.0; x_offset = inside_within 40000000 _ c.0; y_offset = inside_within 40000000 _ c.1 }

all_light : (ps : List Position) → list_all bounded_position ps ≡ true → AllLight ps
all_light [] h = tt
all_light (p ∷ ps) h = let a = and_parts (bounded_position p) (list_all bounded_position ps) h in (light p a.0, all_light ps a.1)

all_glyphs : (rs : List SignRow) → list_all bounded_row rs ≡ true → AllGlyphs rs
all_glyphs [] h = tt
all_glyphs (r ∷ rs) h = let a = and_parts (bounded_row r) (list_all bounded_row rs) h in (leb-true _ _ a.0, all_glyphs rs a.1)

module _ (rs : List SignRow) (ps : List Position) (h : bounded rs ps ≡ true) where
  pub bounded_glyphs : AllGlyphs rs
  bounded_glyphs = all_glyphs rs (and_parts (list_all bounded_row rs) (list_all bounded_position ps) h).0

  pub bounded_light : AllLight ps
  bounded_light = all_light ps (and_parts (list_all bounded_row rs) (list_all bounded_position ps) h).1

-- and the other way round
inside_from : (n : ℕ) (z : ℤ) → Within n z → inside n z ≡ true
inside_from n z w = and_from (le_z (neg_ℤ (pos n)) z) (le_z z (pos n)) (grind (arith, ints)) (grind (arith, ints))

from_light : (p : Position) → Light p → bounded_position p ≡ true
from_light p l = and_from _ _ (inside_from 65535 _ l.x_advance) (and_from _ _ (inside_from 65535 _ l.y_advance) (and_from _ _ (inside_from 40000000 _ l.x_offset) (inside_from 40000000 _ l.y_offset)))

all_from : {X : Type 0} (test : X → Bool) (P : X → Type 0) → ((x : X) → P x → test x ≡ true) → (xs : List X) → AllByRecursion P xs → list_all test xs ≡ true
all_from test P from [] a = refl
all_from test P from (x ∷ xs) a = and_from _ _ (from x a.0) (all_from test P from xs a.1)

pub bounded_from : (rs : List SignRow) (ps : List Position) → AllGlyphs rs → AllLight ps → bounded rs ps ≡ true
bounded_from rs ps g l = and_from _ _ (all_from bounded_row (λ (r : SignRow). r.code ≤ 65535) (λ r h. le-leb _ _ h) rs g) (all_from bounded_position Light from_light ps l)
