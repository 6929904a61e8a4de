use Rattle.meaning.proofs.Examples as laws
use Rattle.meaning.proofs.worked_examples.Goals as goal

pub returns : goal.returns
returns c = laws.worked_examples
