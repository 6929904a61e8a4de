use Rattle.meaning.proofs.Reference as laws
use Rattle.meaning.proofs.deciding_exists.Goals as goal

pub returns : goal.returns
returns c = laws.deciding_exists
