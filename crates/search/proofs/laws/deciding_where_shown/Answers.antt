use Rattle.search.proofs.Formulas.{where_shown}
use Rattle.search.proofs.laws.deciding_where_shown.Goals as goal

pub returns : goal.returns
returns c = where_shown
