-- The laws of weights that go by the greatest tariff; and that an airtime stays within its limit.
use Rattle.std.proofs.Common.{◌≡◌, ℕ, ◌≤◌, true, nat_le, ◌⊎◌, inl, inr, ⊎_elim, arith}
use Rattle.std.proofs.lemmas.Bool.{cases_lt, le-leb, leb-true}
use Rattle.meaning.specs.Weights.{WeightLaws, airtime, peak}

module _ {W : Type 0} (number : W → ℕ) (join : W → ℕ → W) (joins : (w : W) (c : ℕ) → number (join w c) ≡ peak (number w) c) where
  total : (v w : W) → (nat_le (number v) (number w) ≡ true) ⊎ (nat_le (number w) (number v) ≡ true)
  total v w =
      ⊎_elim (λ h. inl (le-leb (number v) (number w) (omega arith))) (λ h. inr (le-leb (number w) (number v) h)) (cases_lt (number v) (number w))

  carries : (u v w : W) → nat_le (number u) (number v) ≡ true → nat_le (number v) (number w) ≡ true → nat_le (number u) (number w) ≡ true
  carries u v w p q = le-leb (number u) (number w) (omega (arith, leb-true (number u) (number v) p, leb-true (number v) (number w) q))

  grows : (w : W) (c : ℕ) → nat_le (number w) (number (join w c)) ≡ true
  grows w c = le-leb (number w) (number (join w c)) (omega (arith, joins w c))

  keeps : (v w : W) (c : ℕ) → nat_le (number v) (number w) ≡ true → nat_le (number (join v c)) (number (join w c)) ≡ true
  keeps v w c p =
      le-leb (number (join v c)) (number (join w c)) (omega (arith, joins v c, joins w c, leb-true (number v) (number w) p))

  pub peak_laws : WeightLaws (λ (v : W) (w : W). nat_le (number v) (number w) ≡ true) join
  peak_laws = record { total = total; carries = carries; grows = λ w c _. grows w c; keeps = λ v w c _ p. keeps v w c p }

pub airtime_fits : (w c : ℕ) → airtime w c ≤ 4294967295
airtime_fits w c = omega arith

pub zero_fits : 0 ≤ 4294967295
zero_fits = omega arith
