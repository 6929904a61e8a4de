use Rattle.std.proofs.Common.{rules, tests, ◌≡◌, ◌∙◌, sym}
use Rattle.std.specs.List.{list_all}
use Rattle.std.proofs.lemmas.List.Folds.{list_all-map}
use Rattle.std.proofs.lemmas.Iterator.{YieldsList-from_slice}
use Rattle.std.proofs.lemmas.Iterator.Search.{all_from_yields_List}
use Rattle.formula.specs.Vocabulary.{vocabulary}
use Rattle.formula.specs.Checking.{is_listed}
use Rattle.formula.specs.Tokens.{tok}
use Rattle.formula.proofs.cursor.Cursor.all_listed.Goals as goal

pub returns : goal.returns
returns c =
    let names = vocabulary c.args.self.now.names in
    let e : c.all.result ≡ list_all (λ t. is_listed (vocabulary c.args.self.now.names) (tok t)) c.args.self.now.tokens.now =
    all_from_yields_List (λ t. is_listed names (tok t)) _ _ c.all.result c.all.ensures.ran (YieldsList-from_slice c.args.self.now.tokens.now (cc)) (λ x b q k. search (rules, tests)) in
    e ∙ sym (list_all-map (is_listed names) tok c.args.self.now.tokens.now)
