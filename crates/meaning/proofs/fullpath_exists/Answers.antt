use Rattle.meaning.proofs.Derived as laws
use Rattle.meaning.proofs.fullpath_exists.Goals as goal

pub returns : goal.returns
returns c = laws.fullpath_exists
