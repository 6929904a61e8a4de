use Rattle.std.proofs.Common.{sym, refl, ◌∙◌}
use Rattle.study.specs.Runs.{opened}
use Rattle.study.proofs.study.Study.open.Goals as goal

pub returns-clause-run : goal.returns-clause-run
returns-clause-run g c =
    opened (
      sym c.covers.ensures ∙ c.if-covers-states.false ∙ c.states-states.ensures,
      c.states-states.ensures,
      c.new.ensures.formulas,
      c.new.ensures.nodes,
      refl,
    )
