use Rattle.study.specs.Runs.{asked}
use Rattle.study.proofs.Laws.{ask_law}
use Rattle.study.proofs.study.Study.ask.Goals as goal

pub returns-clause-law : goal.returns-clause-law
returns-clause-law g c =
    λ M₀ calls run.
    ask_law (g.M.TransitionSystem.meaning c.args.model.now) M₀ calls c.args.self.now (g.S.Shelf.sheets c.args.shelf.now) c.args.number c.args.state _ run c.look.ensures

pub returns-clause-run : goal.returns-clause-run
returns-clause-run g c = λ calls run. asked run c.look.ensures
