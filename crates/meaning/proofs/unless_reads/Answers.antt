use Rattle.meaning.proofs.Reference as laws
use Rattle.meaning.proofs.unless_reads.Goals as goal

pub returns : goal.returns
returns c = laws.unless_reads
