use Rattle.base.proofs.Bitwise.{one-holds}
use Rattle.base.proofs.action_set.ActionSet.from_action.Goals as goal

pub returns-then-action-lt-ACTIONS : goal.returns-then-action-lt-ACTIONS
returns-then-action-lt-ACTIONS c = one-holds c.args.action c.if-action-lt-ACTIONS.true
