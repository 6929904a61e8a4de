use Rattle.meaning.proofs.Examples as laws
use Rattle.meaning.proofs.ag_skips.Goals as goal

pub returns : goal.returns
returns c = laws.ag_skips
