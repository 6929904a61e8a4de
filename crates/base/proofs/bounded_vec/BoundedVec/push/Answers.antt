use Rattle.std.proofs.Common.{arith}
use Rattle.base.proofs.Filling.{filled-push}
use Rattle.base.proofs.bounded_vec.BoundedVec.push.Goals as goal

pub invariant_of-self : goal.invariant_of-self
invariant_of-self g c = filled-push _ _ _ _ c.self.invariant c.args.item (omega arith)
