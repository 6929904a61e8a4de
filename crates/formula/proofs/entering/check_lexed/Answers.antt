use Rattle.std.proofs.Common.{map, take}
use Rattle.formula.specs.Tokens.{tok}
use Rattle.formula.specs.Vocabulary.{vocabulary}
use Rattle.formula.proofs.Entries.{from_tokens}
use Rattle.formula.proofs.entering.check_lexed.Goals as goal

pub returns : goal.returns
returns g c =
    from_tokens c.args.text.now (map tok (take c.in_ok-count.count c.lex.new.room)) c.in_ok-count.ensures.tokens
    (vocabulary c.args.names) c.args.nodes.now c.requires.some c.requires.few c.check_tokens.result c.check_tokens.ensures
