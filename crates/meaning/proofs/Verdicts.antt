-- All states count for a verdict.
use Rattle.std.proofs.Common.{◌≡◌, ℕ, zero, suc, Bool, true, refl, arith}
use Rattle.meaning.specs.Lts.{Lts, count_below}
use Rattle.meaning.specs.Verdicts.{total, count_of}

all_below : (n : ℕ) → count_below (λ s. true) n ≡ n
all_below zero = refl
all_below (suc n) = omega (arith, all_below n)

pub total-is : (M : Lts) → total M ≡ M.states
total-is M = all_below M.states

pub count_of-is : (M : Lts) (X : ℕ → Bool) → count_of M X ≡ count_below X M.states
count_of-is M X = refl
