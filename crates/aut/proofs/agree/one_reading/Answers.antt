use Rattle.aut.proofs.Readings as readings
use Rattle.aut.proofs.agree.one_reading.Goals as goal

pub returns : goal.returns
returns c = readings.one_reading
