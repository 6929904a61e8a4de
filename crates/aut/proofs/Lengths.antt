-- How long numbers, lines and line one are.
use Rattle.std.proofs.Common.{◌≡◌, ℕ, zero, suc, ◌+◌, ◌*◌, ◌/◌, ◌%◌, ◌^◌, ◌<◌, ◌≤◌, List, [], ◌∷◌, ◌++◌, length, Option, Some, None, codes, decimal, ap, arith}
use Rattle.std.specs.Option.{IfNone, IfSome, MatchOption}
use Rattle.std.proofs.Math.Nat.{pow-succ'}
use Rattle.std.proofs.lemmas.List.{length-append}
use Rattle.std.proofs.lemmas.Fmt.{decimal_digit, decimal_step}
use Rattle.aut.specs.Writing.{line_text, head_text}

-- a number between two powers of ten, the lower one included
pub decimal-long : (k n : ℕ) → 10 ^ k ≤ n → n < 10 * 10 ^ k → n < 2 ^ 64 → length (decimal n) ≡ k + 1
decimal-long zero n low high fits = ap length (decimal_digit n (omega arith))
decimal-long (suc k) n low high fits =
    let p = pow-succ' 10 k in
    let shorter = decimal-long k (n / 10) (omega arith) (omega arith) (omega arith) in
    omega (arith, shorter, ap length (decimal_step n (omega arith) fits), length-append (decimal (n / 10)) ((48 + n % 10) ∷ []))

-- by the power of ten that a number reaches; 0 has a digit too
pub digits_of_power : (n r : ℕ) (o : Option ℕ) → n < 2 ^ 64 → IfNone o (n ≡ 0) → IfSome o (λ k. 10 ^ k ≤ n) → IfSome o (λ k. n < 10 * 10 ^ k) → MatchOption o (r ≡ 1) (λ k. r ≡ k + 1) → r ≡ length (decimal n)
digits_of_power n r None fits zero-is low high e = omega (arith, e, ap length (decimal_digit n (omega (arith, zero-is))))
digits_of_power n r (Some k) fits zero-is low high e = omega (arith, e, decimal-long k n low high fits)

-- how long a line is
pub line-long : (s : ℕ) (name : List ℕ) (t : ℕ) → length (line_text s name t) ≡ length (decimal s) + length name + length (decimal t) + 7
line-long s name t =
    let a = length-append (decimal s) (codes ",\"" ++ (name ++ (codes "\"," ++ (decimal t ++ codes ")\n")))) in
    let b = length-append name (codes "\"," ++ (decimal t ++ codes ")\n")) in
    let d = length-append (decimal t) (codes ")\n") in
    omega (arith, a, b, d)

-- how long line one is
pub head-long : (i m n : ℕ) → length (head_text i m n) ≡ length (decimal i) + length (decimal m) + length (decimal n) + 9
head-long i m n =
    let a = length-append (decimal i) (codes "," ++ (decimal m ++ (codes "," ++ (decimal n ++ codes ")\n")))) in
    let b = length-append (decimal m) (codes "," ++ (decimal n ++ codes ")\n")) in
    let c = length-append (decimal n) (codes ")\n") in
    omega (arith, a, b, c)
