-- Numbers in bytes, the highest byte first. A byte is a number below 256; every list of numbers is read as bytes.
use Rattle.std.specs.Prelude.{ℕ, zero, suc, ◌+◌, ◌*◌, ◌%◌, cond, List, [], ◌∷◌, length, ℤ, Ok, Err, Result, nat_le, slice_index}
use Rattle.std.specs.Int.{w16}
use Rattle.std.proofs.Common.{to_z}
use Rattle.fonts.specs.declared.faults.ByteFault.{ByteFault}

-- The byte at a place, 0 past the end.
abbrev pub byte_at : List ℕ → ℕ → ℕ
byte_at bs at = slice_index bs at % 256

-- Two bytes, as a number and as a signed one, and four.
abbrev pub word : List ℕ → ℕ → ℕ
word bs at = byte_at bs at * 256 + byte_at bs (at + 1)

abbrev pub signed_word : List ℕ → ℕ → ℤ
signed_word bs at = to_z w16 (word bs at)

abbrev pub long : List ℕ → ℕ → ℕ
long bs at = byte_at bs at * 16777216 + byte_at bs (at + 1) * 65536 + byte_at bs (at + 2) * 256 + byte_at bs (at + 3)

-- Some bytes at a place.
abbrev pub bytes_at : List ℕ → ℕ → ℕ → List ℕ
bytes_at bs at zero = []
bytes_at bs at (suc n) = byte_at bs at ∷ bytes_at bs (at + 1) n

-- A field of some bytes at a place: what it holds, or a fault at the place where its bytes pass the end.
abbrev pub field : {A : Type 0} → List ℕ → ℕ → ℕ → A → Result A ByteFault
field bs at size v = cond (nat_le (at + size) (length bs)) (Ok v) (Err (record { place = at }))

abbrev pub u16_at : List ℕ → ℕ → Result ℕ ByteFault
u16_at bs at = field bs at 2 (word bs at)

abbrev pub i16_at : List ℕ → ℕ → Result ℤ ByteFault
i16_at bs at = field bs at 2 (signed_word bs at)

abbrev pub u32_at : List ℕ → ℕ → Result ℕ ByteFault
u32_at bs at = field bs at 4 (long bs at)
