use Rattle.meaning.proofs.Deciding as laws
use Rattle.meaning.proofs.paths_decide.Goals as goal

pub returns : goal.returns
returns c = laws.paths_decide
