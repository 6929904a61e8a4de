use Rattle.std.proofs.Common.{rules, tests, eqb, sym, ap, ◌∙◌}
use Rattle.formula.specs.Tokens.{token_at}
use Rattle.formula.proofs.Runs.{past_spaces}
use Rattle.formula.proofs.lexer.past_spaces.Goals as goal

pub returns-clause-token : goal.returns-clause-token
returns-clause-token c =
    let e = c.run.ensures.cut (λ b. eqb b 32) (λ b r q. search (rules, tests)) in
    past_spaces c.args.text.now ∙ ap token_at (sym e.1)
