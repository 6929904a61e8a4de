use Rattle.aut.proofs.RoundTrip as trip
use Rattle.aut.proofs.agree.reads_back.Goals as goal

pub returns : goal.returns
returns c = trip.reads-back
