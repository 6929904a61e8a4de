-- The verdict on a formula: which states count for it, how many there are, and the share where it
-- holds.
use Rattle.std.specs.Prelude.{ℕ, ◌*◌, ◌/◌, Bool, true, ◌&&◌}
use Rattle.meaning.specs.Lts.{Lts, count_below}

-- which states count: all of them
abbrev pub counted : Lts → ℕ → Bool
counted M s = true

-- how many there are
abbrev pub total : Lts → ℕ
total M = count_below (counted M) M.states

-- and how many of them are in a set
abbrev pub count_of : Lts → (ℕ → Bool) → ℕ
count_of M X = count_below (λ s. counted M s && X s) M.states

-- so many of n in thousandths, the fraction dropped
abbrev pub share : ℕ → ℕ → ℕ
share many n = 1000 * many / n

-- What is said of a formula: whether it holds at the start, at how many states, of how many, and
-- that in thousandths.
pub record Verdict : Type 0 where
  pub holds : Bool
  pub count : ℕ
  pub total : ℕ
  pub share : ℕ

-- the verdict by the marks of a formula
abbrev pub verdict : Lts → (ℕ → Bool) → Verdict
verdict M X = record {
  holds = X M.start;
  count = count_of M X;
  total = total M;
  share = share (count_of M X) (total M);
}
