use Rattle.formula.proofs.Readings as readings
use Rattle.formula.proofs.agree.agreement.Goals as goal

pub returns : goal.returns
returns c = readings.agreement
