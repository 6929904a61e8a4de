-- Weights that go by a number: the four laws.
use Rattle.std.proofs.Common.{◌≡◌, ℕ, ◌≤◌, true, nat_le, ◌⊎◌, inl, inr, ⊎_elim, arith}
use Rattle.std.proofs.lemmas.Bool.{cases_lt, le-leb, leb-true}
use Rattle.meaning.specs.Weights.{WeightLaws, airtime, peak}

-- weights that are no greater than some number, and go by `add` where a step is joined
module _ {W : Type 0} (number : W → ℕ) (most : ℕ) (add : ℕ → ℕ → ℕ) (join : W → ℕ → W)
    (small : (w : W) → number w ≤ most)
    (joins : (w : W) (c : ℕ) → c ≤ 65535 → number (join w c) ≡ add (number w) c)
    (add_grows : (n c : ℕ) → n ≤ most → c ≤ 65535 → n ≤ add n c)
    (add_keeps : (n m c : ℕ) → c ≤ 65535 → n ≤ m → add n c ≤ add m c) where
  by_total : (v w : W) → (nat_le (number v) (number w) ≡ true) ⊎ (nat_le (number w) (number v) ≡ true)
  by_total v w =
      ⊎_elim (λ h. inl (le-leb (number v) (number w) (omega arith))) (λ h. inr (le-leb (number w) (number v) h)) (cases_lt (number v) (number w))

  by_carries : (u v w : W) → nat_le (number u) (number v) ≡ true → nat_le (number v) (number w) ≡ true → nat_le (number u) (number w) ≡ true
  by_carries u v w p q = le-leb (number u) (number w) (omega (arith, leb-true (number u) (number v) p, leb-true (number v) (number w) q))

  by_grows : (w : W) (c : ℕ) → c ≤ 65535 → nat_le (number w) (number (join w c)) ≡ true
  by_grows w c h = le-leb (number w) (number (join w c)) (omega (arith, joins w c h, add_grows (number w) c (small w) h))

  by_keeps : (v w : W) (c : ℕ) → c ≤ 65535 → nat_le (number v) (number w) ≡ true → nat_le (number (join v c)) (number (join w c)) ≡ true
  by_keeps v w c h p =
      le-leb (number (join v c)) (number (join w c))
      (omega (arith, joins v c h, joins w c h, add_keeps (number v) (number w) c h (leb-true (number v) (number w) p)))

  pub by_number : WeightLaws (λ (v : W) (w : W). nat_le (number v) (number w) ≡ true) join
  by_number = record { total = by_total; carries = by_carries; grows = by_grows; keeps = by_keeps }

-- the airtime, of sums that do not pass its end
pub airtime_grows : (n c : ℕ) → n ≤ 4294967295 → c ≤ 65535 → n ≤ airtime n c
airtime_grows n c h l = omega arith

pub airtime_keeps : (n m c : ℕ) → c ≤ 65535 → n ≤ m → airtime n c ≤ airtime m c
airtime_keeps n m c l h = omega arith

pub peak_grows : (most n c : ℕ) → n ≤ most → c ≤ 65535 → n ≤ peak n c
peak_grows most n c h l = omega arith

pub peak_keeps : (n m c : ℕ) → c ≤ 65535 → n ≤ m → peak n c ≤ peak m c
peak_keeps n m c l h = omega arith
