use Rattle.formula.proofs.Readings as readings
use Rattle.formula.proofs.agree.one_reading.Goals as goal

pub returns : goal.returns
returns c = readings.one_reading
