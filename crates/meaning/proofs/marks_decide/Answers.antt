use Rattle.meaning.proofs.Operators as laws
use Rattle.meaning.proofs.marks_decide.Goals as goal

pub returns : goal.returns
returns c = laws.marks_decide
