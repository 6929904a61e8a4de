use Rattle.std.proofs.Common.{rules, tests, ◌≡◌, take, drop, ap, ◌∙◌}
use Rattle.std.specs.List.{prefix_len}
use Rattle.std.proofs.lemmas.Iterator.{YieldsList-from_slice}
use Rattle.std.proofs.lemmas.Iterator.Consumers.{count_from_yields_List}
use Rattle.std.proofs.lemmas.Iterator.Search.{YieldsList-from_take_while}
use Rattle.std.proofs.lemmas.List.Folds.{length-prefix_len}
use Rattle.formula.proofs.lexer.run.Goals as goal

pub returns-clause-cut : goal.returns-clause-cut
returns-clause-cut g c = λ p belongs.
    let text = c.args.text.now in
    let n : c.count.result ≡ prefix_len p c.args.text.now =
    count_from_yields_List c.take_while.result _ c.count.ensures.ran
    (YieldsList-from_take_while _ p (YieldsList-from_slice text (cc)) c.take_while.ensures.closure c.take_while.ensures.done (λ x b q k. search (rules, tests))) ∙ length-prefix_len p text in
    (c.split_at.ensures.front ∙ ap (λ k. take k text) n, c.split_at.ensures.back ∙ ap (λ k. drop k text) n)
