use Rattle.std.proofs.Common.{rules}
use Rattle.std.proofs.lemmas.List.{take_rest}
use Rattle.aut.proofs.Fronts.{first-line, no_line-ends}
use Rattle.aut.proofs.front.skip_line.Goals as goal

pub returns-in_err-end : goal.returns-in_err-end
returns-in_err-end c = rw c.from_residual.ensures (λ k. no_line-ends k c.args.text.now (λ j h. search rules))

pub returns : goal.returns
returns c = first-line c.in_ok-end.end c.args.text.now _ (search rules) (search rules) (λ j h e. search rules) (take_rest c.args.text.now _)
