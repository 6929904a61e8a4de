-- An error is never a value.
use Rattle.std.proofs.Common.{◌≡◌, ℕ, Ok, Err, arith}

pub not_ok : {T E : Type 0} (A : Type 0) {x : T} {e : E} → Err e ≡ Ok x → A
not_ok A k = let z : ◌≡◌ {A = ℕ} 0 1 = cc in absurd (omega arith)
