use Rattle.std.proofs.Common.{rules}
use Rattle.base.proofs.Listed.{not_empty}
use Rattle.base.proofs.labels.Labels.is_empty.Goals as goal

pub returns : goal.returns
returns c = let some = not_empty c.args.self.now c.names.ensures.lawful in search rules
