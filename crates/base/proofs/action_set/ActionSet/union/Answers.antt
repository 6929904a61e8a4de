use Rattle.base.proofs.Bitwise.{union-holds}
use Rattle.base.proofs.action_set.ActionSet.union.Goals as goal

pub returns : goal.returns
returns c = rw (← c.self.view_is, ← c.other.view_is) (union-holds c.self.inside.bits c.other.inside.bits)
