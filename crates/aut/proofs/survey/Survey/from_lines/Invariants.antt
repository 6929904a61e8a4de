use Rattle.std.proofs.Common.{◌≡◌}
use Rattle.aut.specs.Lines.{lines_left}
use Rattle.aut.specs.Surveys.{seen, unseen, surveyed}
use Rattle.aut.proofs.survey.Survey.from_lines.Given as goal

abbrev pub invariant-loop-line : goal.invariant-loop-line
invariant-loop-line l = surveyed (seen l.survey) (lines_left l.line-iterator) ≡ surveyed (unseen l.fn.shape l.fn.labels) (lines_left l.fn.lines)
