use Rattle.std.proofs.Common.{rules, length, ◌<◌}
use Rattle.formula.proofs.Runs.{steps_within}
use Rattle.formula.proofs.lexer.LexerIterator.next.Goals as goal

pub returns-clause-goes : goal.returns-clause-goes
returns-clause-goes c =
    let shorter : length c.token.new.self.rest.now < length c.past_spaces-text.result.now =
    steps_within c.past_spaces-text.result.now c.token.result c.token.new.self.rest.now (search rules) c.token.ensures in
    search rules
