use Rattle.std.proofs.Common.{replicate, ap, ◌∙◌}
use Rattle.aut.specs.declared.survey.Fit.TheVariants.{Whole}
use Rattle.aut.specs.Lines.{lines_left}
use Rattle.aut.specs.Surveys.{surveyed}
use Rattle.aut.proofs.survey.Survey.from_lines.Goals as goal

pub loop-line-init : goal.loop-line-init
loop-line-init c =
    ap (λ x. surveyed (record { shape = c.args.shape; names = c.args.labels; counts = x; fit = Whole }) (lines_left c.into_iter-line-iterator.result)) c.new.ensures
    ∙ ap (λ x. surveyed (record { shape = c.args.shape; names = c.args.labels; counts = replicate 65536 0; fit = Whole }) (lines_left x)) c.into_iter-line-iterator.ensures.into_iter_gives
