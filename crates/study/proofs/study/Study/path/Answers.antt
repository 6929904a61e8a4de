use Rattle.search.specs.Finding.{held}
use Rattle.study.specs.Runs.{path_found}
use Rattle.study.specs.Study.{path_call}
use Rattle.study.proofs.Laws.{path_law, path_tells}
use Rattle.study.proofs.study.Study.path.Goals as goal

pub returns-clause-law : goal.returns-clause-law
returns-clause-law g c =
    let q = path_call g.W.Weight.scale c.args.tariffs.now c.args.number c.args.state in
    λ M₀ calls alike run.
    path_law q (g.M.TransitionSystem.meaning c.args.model.now) M₀ alike calls c.args.self.now (g.S.Shelf.sheets c.args.shelf.now)
    (held c.args.lists.now) (held c.find.new.lists) _ run c.find.ensures

pub returns-clause-run : goal.returns-clause-run
returns-clause-run g c =
    let q = path_call g.W.Weight.scale c.args.tariffs.now c.args.number c.args.state in
    λ calls run.
    path_found run (path_tells q (g.M.TransitionSystem.meaning c.args.model.now) calls c.args.self.now (g.S.Shelf.sheets c.args.shelf.now)
    (held c.args.lists.now) (held c.find.new.lists) _ run c.find.ensures)
