use Rattle.base.proofs.Bitwise.{all-holds}
use Rattle.base.proofs.action_set.ActionSet.all.Goals as goal

pub returns : goal.returns
returns c = all-holds
