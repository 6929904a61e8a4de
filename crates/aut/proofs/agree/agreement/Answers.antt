use Rattle.aut.proofs.Readings as readings
use Rattle.aut.proofs.agree.agreement.Goals as goal

pub returns : goal.returns
returns c = readings.agreement
