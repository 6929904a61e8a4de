-- How the paths of a listing are weighed.
use Rattle.std.specs.Prelude.{ℕ, List, nat_le, replicate, slice_index_or}
use Rattle.meaning.specs.Scales.{Scale}
use Rattle.meaning.specs.Weights.{airtime}

-- by airtime
abbrev pub by_airtime : Scale ℕ
by_airtime = record { at_most = nat_le; join = airtime; start = 0 }

-- each of the 64 actions has tariff 1
abbrev pub tariffs : List ℕ
tariffs = replicate 64 1

abbrev pub one_each : ℕ → ℕ
one_each a = slice_index_or tariffs a 0
