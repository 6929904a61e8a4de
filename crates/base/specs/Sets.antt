-- Which actions a set of actions holds, by its number.
use Rattle.std.specs.Prelude.{ℕ, ◌/◌, ◌%◌, ◌^◌, Bool, ◌&&◌, ◌==◌, nat_lt}

-- whether digit a of a number, from the right in base two, is 1
abbrev pub digit_set : ℕ → ℕ → Bool
digit_set n a = n / 2 ^ a % 2 == 1

-- No set holds an action past 63.
abbrev pub holds : ℕ → ℕ → Bool
holds s a = nat_lt a 64 && digit_set s a
