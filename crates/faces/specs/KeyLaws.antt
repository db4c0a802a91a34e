-- What the order of records says, by their places in a list.
use Rattle.std.specs.Prelude.{◌≡◌, ℕ, ◌<◌, true, List, ◌∷◌, ◌++◌, length, Some, None, ◌≢◌}
use Rattle.faces.specs.Keys.{rising, key_at, Rises, first}
use Rattle.faces.specs.Records.{glyph_key, code_key}

pub record KeyLaws {X : Type 0} (key : X → ℕ) : Type 0 where
  -- a list passes the test just where of two places the earlier one has the smaller key
  pub rises : (xs : List X) → rising key xs ≡ true → Rises key xs
  pub passes : (xs : List X) → Rises key xs → rising key xs ≡ true
  -- each record of such a list is the answer for its own key
  pub own : (before : List X) (x : X) (after : List X) → rising key (before ++ x ∷ after) ≡ true → first key (key x) (before ++ x ∷ after) ≡ Some x
  -- and a key that stands at no place has no answer
  pub none : (k : ℕ) (xs : List X) → ((i : ℕ) → i < length xs → key_at key xs i ≢ k) → first key k xs ≡ None

pub record RecordLaws : Type 0 where
  pub glyphs : KeyLaws glyph_key
  pub codes : KeyLaws code_key
