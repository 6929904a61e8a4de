use Rattle.base.proofs.Bitwise.{intersection-holds}
use Rattle.base.proofs.action_set.ActionSet.intersection.Goals as goal

pub returns : goal.returns
returns c = rw (← c.self.view_is, ← c.other.view_is) (intersection-holds c.self.inside.bits c.other.inside.bits)
