use Rattle.std.proofs.Common.{rules}
use Rattle.base.proofs.Listed.{not_empty}
use Rattle.base.proofs.labels.Labels.len.Goals as goal

pub returns-clause-some : goal.returns-clause-some
returns-clause-some c = let some = not_empty c.args.self.now c.names.ensures.lawful in search rules
