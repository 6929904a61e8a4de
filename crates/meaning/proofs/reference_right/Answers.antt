use Rattle.meaning.proofs.Reference as laws
use Rattle.meaning.proofs.reference_right.Goals as goal

pub returns : goal.returns
returns c = laws.reference_right
