use Rattle.std.proofs.Common.{None, refl}
use Rattle.formula.specs.Reading.{in_braces}
use Rattle.formula.proofs.Choices as choices
use Rattle.formula.proofs.cursor.Cursor.braced.Goals as goal

pub returns-in_default : goal.returns-in_default
returns-in_default c =
    choices.none-at c.args.self.now 3 (λ n. in_braces) None refl (λ n h. choices.braces_none _ c.in_default.ensures)

pub returns : goal.returns
returns c = choices.braces_closed c.args.self.now c.in-Some.inner c.in-Some.ensures c.closed.result c.closed.ensures
