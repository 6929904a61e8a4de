use Rattle.std.proofs.Common.{◌/◌, ◌^◌, arith}
use Rattle.std.proofs.lemmas.Nat.{and_mask}
use Rattle.std.proofs.lemmas.Bool.Decides.{nat_tests}
use Rattle.base.proofs.action_set.ActionSet.contains.Goals as goal

pub returns-then-action-lt-ACTIONS : goal.returns-then-action-lt-ACTIONS
returns-then-action-lt-ACTIONS c = rw (← c.self.view_is) (let e = and_mask (c.self.inside.bits / 2 ^ c.args.action) 1 in grind (arith, nat_tests))
