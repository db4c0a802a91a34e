-- Lists of records by their keys: strictly rising lists, the first record of a key, a test of every record.
use Rattle.std.specs.Prelude.{ℕ, ◌+◌, ◌<◌, Bool, true, ◌&&◌, List, [], ◌∷◌, map, length, Option, ◌==◌, nat_le, slice_index}
use Rattle.std.specs.List.{find, list_all}

module _ {X : Type 0} (key : X → ℕ) where
  -- no key is below the low one, and each next key is above the last
  abbrev pub rising_from : ℕ → List X → Bool
  rising_from low [] = true
  rising_from low (x ∷ xs) = nat_le low (key x) && rising_from (key x + 1) xs

  -- strictly rising
  abbrev pub rising : List X → Bool
  rising xs = rising_from 0 xs

  abbrev pub key_at : List X → ℕ → ℕ
  key_at xs i = slice_index (map key xs) i

  -- the same in plain words: of two places the earlier one has the smaller key
  abbrev pub Rises : List X → Type 0
  Rises xs = (i j : ℕ) → i < j → j < length xs → key_at xs i < key_at xs j

  -- the first record of a key
  abbrev pub first : ℕ → List X → Option X
  first k = find (λ x. key x == k)

-- a test that every element passes
abbrev pub every : {X : Type 0} → (X → Bool) → List X → Bool
every = list_all
