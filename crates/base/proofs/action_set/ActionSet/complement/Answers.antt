use Rattle.std.proofs.Common.{◌^◌, ◌<◌, rules}
use Rattle.base.proofs.Bitwise.{complement-holds}
use Rattle.base.proofs.action_set.ActionSet.complement.Goals as goal

pub returns : goal.returns
returns c = let f : c.self.inside.bits < 2 ^ 64 = search rules in rw (← c.self.view_is) (complement-holds c.self.inside.bits f)
