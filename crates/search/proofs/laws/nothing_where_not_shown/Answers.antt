use Rattle.search.proofs.Formulas.{where_not_shown}
use Rattle.search.proofs.laws.nothing_where_not_shown.Goals as goal

pub returns : goal.returns
returns g c = where_not_shown g.W.Weight.scale
