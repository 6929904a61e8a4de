-- How a bounded vector lays its values in its places.
use Rattle.std.specs.Prelude.{◌≡◌, ℕ, ◌-◌, ◌≤◌, List, length, drop, replicate}

-- of N places, the first `len` hold the values, and each place after them holds the filler
pub record IsFilled {T : Type 0} (N : ℕ) (filler : T) (places : List T) (len : ℕ) : Type 0 where
  pub exactly : length places ≡ N
  pub within : len ≤ N
  pub rest : drop len places ≡ replicate (N - len) filler
