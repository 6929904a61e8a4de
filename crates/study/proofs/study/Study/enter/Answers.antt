use Rattle.study.specs.Runs.{entered}
use Rattle.study.proofs.Laws.{enter_law}
use Rattle.study.proofs.study.Study.enter.Goals as goal

pub returns-clause-law : goal.returns-clause-law
returns-clause-law c = λ M calls sheets run. enter_law M calls c.args.self.now _ sheets c.args.text.now c.args.labels.now _ run c.add.ensures

pub returns-clause-run : goal.returns-clause-run
returns-clause-run c = λ M calls sheets run. entered run c.add.ensures
