use Rattle.std.proofs.Common.{refl}
use Rattle.bench_api.specs.Marks.{no_formula}
use Rattle.bench_api.proofs.marks.neqoylla_mark_columns.Goals as goal

pub returns-in_default-nodes_of : goal.returns-in_default-nodes_of
returns-in_default-nodes_of c = (no_formula c.in_default-nodes_of.ensures, refl)
