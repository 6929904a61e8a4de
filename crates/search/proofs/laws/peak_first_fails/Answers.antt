use Rattle.std.proofs.Common.{false, refl, arith}
use Rattle.std.proofs.lemmas.Bool.{both_ways}
use Rattle.search.proofs.laws.peak_first_fails.Goals as goal

pub returns : goal.returns
returns c = (refl, refl, λ laws. both_ways false refl (laws.keeps (1, 5) (2, 2) 3 (omega arith) refl))
