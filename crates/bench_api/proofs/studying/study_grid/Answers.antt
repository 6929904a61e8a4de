use Rattle.std.proofs.Common.{refl}
use Rattle.search.specs.Finding.{held}
use Rattle.bench_api.specs.Studying.{no_grid}
use Rattle.bench_api.proofs.Told.{answered}
use Rattle.bench_api.proofs.studying.study_grid.Goals as goal

pub returns-in-Err-clause-answer : goal.returns-in-Err-clause-answer
returns-in-Err-clause-answer g c = (no_grid c.in-Err.ensures, refl, refl)

pub returns-clause-answer : goal.returns-clause-answer
returns-clause-answer g c =
    answered _ c.args.text.now c.args.cells.now c.args.size.states c.args.size.slots c.in-Ok.ensures.1 g.W.Weight.scale c.args.tariffs.now _
    _ c.in-Ok-actions.ensures _ c.open-shelf.ensures.covers (held c.args.lists.now) (held c.study_rounds.new.lists) c.study_rounds.result c.requires
    c.study_rounds.ensures
