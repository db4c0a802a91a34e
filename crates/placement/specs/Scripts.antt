-- The direction in which a script is written. A script is the number of its four letters, the first one highest.
use Rattle.std.specs.Prelude.{ℕ, Bool, true, false, cond, List, [], ◌∷◌, Some, None, Option}
use Rattle.placement.specs.declared.direction.Direction.{Direction}
use Rattle.placement.specs.declared.direction.Direction.TheVariants.{LeftToRight, RightToLeft, TopToBottom, BottomToTop}
use Rattle.placement.specs.Classes.{one_of}

-- Adlm Arab Armi Avst Chrs Cprt Elym Gara Hatr Hebr Khar Lydi Mand Mani Mend Merc Mero Narb
-- Nbat Nkoo Orkh Ougr Palm Phli Phlp Phnx Prti Rohg Samr Sarb Sogd Sogo Syrc Thaa Yezi
abbrev pub right_to_left : List ℕ
right_to_left =
    0x41646C6D ∷ 0x41726162 ∷ 0x41726D69 ∷ 0x41767374 ∷ 0x43687273 ∷ 0x43707274 ∷ 0x456C796D ∷ 0x47617261 ∷
    0x48617472 ∷ 0x48656272 ∷ 0x4B686172 ∷ 0x4C796469 ∷ 0x4D616E64 ∷ 0x4D616E69 ∷ 0x4D656E64 ∷ 0x4D657263 ∷
    0x4D65726F ∷ 0x4E617262 ∷ 0x4E626174 ∷ 0x4E6B6F6F ∷ 0x4F726B68 ∷ 0x4F756772 ∷ 0x50616C6D ∷ 0x50686C69 ∷
    0x50686C70 ∷ 0x50686E78 ∷ 0x50727469 ∷ 0x526F6867 ∷ 0x53616D72 ∷ 0x53617262 ∷ 0x536F6764 ∷ 0x536F676F ∷
    0x53797263 ∷ 0x54686161 ∷ 0x59657A69 ∷ []

-- written in either direction: Hung Ital Runr Tfng
abbrev pub either : List ℕ
either = 0x48756E67 ∷ 0x4974616C ∷ 0x52756E72 ∷ 0x54666E67 ∷ []

abbrev pub from_script : ℕ → Option Direction
from_script s = cond (one_of s right_to_left) (Some RightToLeft) (cond (one_of s either) None (Some LeftToRight))

-- Whether a script is written from left to right, as it is where it has no direction of its own.
abbrev pub is_leftward : Option Direction → Bool
is_leftward (Some LeftToRight) = true
is_leftward (Some RightToLeft) = false
is_leftward (Some TopToBottom) = true
is_leftward (Some BottomToTop) = true
is_leftward None = true
