-- Airtime is told by its ticks.
use Rattle.std.proofs.Common.{refl, ℕ}
use Rattle.search.specs.declared.airtime.Airtime.{Airtime}
use Rattle.search.specs.contracts.airtime.AirtimeWeight.TheImpl as airtime
use Rattle.listing.specs.Airtimes.{by_airtime}
use Rattle.listing.proofs.Ticks.{ToldBy}

abbrev pub ticks : Airtime → ℕ
ticks v = v.ticks

pub told : ToldBy airtime.ghosts.scale by_airtime ticks
told = record { start = refl; at_most = λ v w. refl; join = λ v c. refl }
