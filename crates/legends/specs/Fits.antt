-- Lists that fit a legend: it has at most 256 signs, and each of its three lists is as long as it is.
use Rattle.std.specs.Prelude.{◌≡◌, ℕ, ◌≤◌, Bool, ◌&&◌, ◌==◌, nat_le}

abbrev pub fit : ℕ → ℕ → ℕ → ℕ → Bool
fit len signs mapped positions = nat_le len 256 && (signs == len && (mapped == len && positions == len))

pub record Fit (len signs mapped positions : ℕ) : Type 0 where
  pub most : len ≤ 256
  pub of_signs : signs ≡ len
  pub of_mapped : mapped ≡ len
  pub of_positions : positions ≡ len
