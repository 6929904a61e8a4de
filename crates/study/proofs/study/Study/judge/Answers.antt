use Rattle.study.specs.Runs.{judged}
use Rattle.study.proofs.Laws.{judge_law, judges_on}
use Rattle.study.proofs.study.Study.judge.Goals as goal

pub returns-clause-law : goal.returns-clause-law
returns-clause-law g c =
    λ M₀ calls alike run.
    judge_law g.S.Shelf.sheets (g.M.TransitionSystem.meaning c.args.model.now) M₀ alike calls c.args.self.now _ c.args.shelf.now _ c.args.number _ run c.mark.ensures

pub returns-clause-run : goal.returns-clause-run
returns-clause-run g c =
    λ calls run.
    judged run (judges_on g.S.Shelf.sheets (g.M.TransitionSystem.meaning c.args.model.now) c.args.number c.args.self.now _ c.args.shelf.now _ _ c.mark.ensures)
