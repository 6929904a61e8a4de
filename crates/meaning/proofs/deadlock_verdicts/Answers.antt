use Rattle.meaning.proofs.Operators as laws
use Rattle.meaning.proofs.deadlock_verdicts.Goals as goal

pub returns : goal.returns
returns c = laws.deadlock_verdicts
