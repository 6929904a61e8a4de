use Rattle.meaning.proofs.Derived as laws
use Rattle.meaning.proofs.derived_reads.Goals as goal

pub returns : goal.returns
returns c = laws.derived_reads
