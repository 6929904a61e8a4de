use Rattle.meaning.proofs.Operators as laws
use Rattle.meaning.proofs.at_deadlock.Goals as goal

pub returns : goal.returns
returns c = laws.at_deadlock
