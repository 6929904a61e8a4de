use Rattle.meaning.proofs.Deadlocks as laws
use Rattle.meaning.proofs.deadlock_test.Goals as goal

pub returns : goal.returns
returns c = laws.deadlock_test
