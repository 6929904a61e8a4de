use Rattle.std.proofs.Common.{refl}
use Rattle.bench_api.specs.Asking.{no_formula}
use Rattle.bench_api.proofs.Handing.{handed}
use Rattle.search.specs.Finding.{held}
use Rattle.bench_api.proofs.asking.find_path.Goals as goal

pub returns-in_default-nodes_of-clause-answer : goal.returns-in_default-nodes_of-clause-answer
returns-in_default-nodes_of-clause-answer g c = (no_formula c.in_default-nodes_of.ensures, refl, refl)

pub returns-clause-answer : goal.returns-clause-answer
returns-clause-answer g c =
    handed c.args.text.now c.args.cells.now c.args.size.states c.args.size.slots _ c.in-Ok.ensures.1
    c.in-Ok-nodes_of.nodes c.in-Ok-nodes_of.ensures g.W.Weight.scale c.args.tariffs.now _ _ c.in-Ok-mark.ensures
    (held c.args.lists.now) (held c.find_rounds.new.lists) c.in-Ok-find_rounds.found c.in-Ok-find_rounds.ensures
