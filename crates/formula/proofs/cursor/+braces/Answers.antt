use Rattle.std.proofs.Common.{of_calls, ◌∷◌, Some, None, refl, ap, ◌∙◌, arith}
use Rattle.formula.specs.Vocabulary.{vocabulary}
use Rattle.formula.specs.declared.symbol.Symbol.TheVariants.{True, False, Tau, Not, Sign as signed}
use Rattle.formula.specs.Choosing.{IsSet}
use Rattle.formula.specs.Places.{unread, ahead}
use Rattle.formula.specs.Reading.{Tight, and_then, read, action_rules}
use Rattle.formula.specs.Tokens.{name, tok}
use Rattle.formula.specs.Trees.{all, none, silent, named, complement}
use Rattle.formula.proofs.Choices as choices
use Rattle.formula.proofs.Findings.{level_chain, tight-from}
use Rattle.formula.proofs.Stages.{tight-by}
use Rattle.formula.proofs.cursor.+braces.Goals as goal

pub Cursor::actions-returns : goal.Cursor::actions-returns
Cursor::actions-returns t c =
    let names = vocabulary c.args.self.now.names in let j = c.in-Chain.connective in
    rw c.in-Chain.is
    (level_chain action_rules j c.args.self.now (λ _ _ x y. IsSet names x y) _ _ (λ at s r s' o. o.3)
    (λ x y s t u u' v w z h k i. choices.joined names j x y v w z h k (search of_calls)) _ _ _ c.chain.ensures)

pub Cursor::other_actions-returns : goal.Cursor::other_actions-returns
Cursor::other_actions-returns t c =
    let d = c.in-Some.ensures in (
      complement d.0,
      λ n h. ap (λ g. and_then g (λ x rest. Some (complement x, rest))) (d.1 n (omega arith)),
      choices.other (vocabulary c.args.self.now.names) d.0 c.in-Some.inner.value c.complement.result d.2 c.complement.ensures,
      d.3,
    )

pub Cursor::tight_actions-returns-in_default : goal.Cursor::tight_actions-returns-in_default
Cursor::tight_actions-returns-in_default t c =
    choices.none-at c.args.self.now 1 (λ n. read action_rules n Tight) None refl
    (tight-by action_rules (ahead c.args.self.now) None (λ n h. ap (action_rules.tightly (read action_rules n)) c.in_default.ensures))

pub Cursor::tight_actions-returns-in-Name : goal.Cursor::tight_actions-returns-in-Name
Cursor::tight_actions-returns-in-Name t c =
    let s = c.args.self.now in let w = c.in-Name.name in
    let e = c.in-Some.ensures.0 ∙ ap (λ x. tok x ∷ unread c.in-Some.field-0.rest) c.in-Name.is in
    tight-from IsSet action_rules s _ (name w) c.in-Some.field-0.rest refl e (Some (record { value = c.named.result; rest = c.in-Some.field-0.rest }))
    (named w, (λ n h. refl), c.named.ensures, omega arith)

pub Cursor::tight_actions-returns-in-True : goal.Cursor::tight_actions-returns-in-True
Cursor::tight_actions-returns-in-True t c =
    choices.by_symbol c.args.self.now _ _ c.in-Symbol.symbol True c.in-Some.field-0.rest c.in-Some.ensures.0 c.in-Symbol.is c.in-True.is refl (Some (record { value = c.all.result; rest = c.in-Some.field-0.rest }))
    (all, (λ n h. refl), c.all.ensures, omega arith)

pub Cursor::tight_actions-returns-in-False : goal.Cursor::tight_actions-returns-in-False
Cursor::tight_actions-returns-in-False t c =
    choices.by_symbol c.args.self.now _ _ c.in-Symbol.symbol False c.in-Some.field-0.rest c.in-Some.ensures.0 c.in-Symbol.is c.in-False.is refl (Some (record { value = c.empty.result; rest = c.in-Some.field-0.rest }))
    (none, (λ n h. refl), c.empty.ensures, omega arith)

pub Cursor::tight_actions-returns-in-Tau : goal.Cursor::tight_actions-returns-in-Tau
Cursor::tight_actions-returns-in-Tau t c =
    choices.by_symbol c.args.self.now _ _ c.in-Symbol.symbol Tau c.in-Some.field-0.rest c.in-Some.ensures.0 c.in-Symbol.is c.in-Tau.is refl (Some (record { value = c.from_action.result; rest = c.in-Some.field-0.rest }))
    (silent, (λ n h. refl), c.from_action.ensures, omega arith)

pub Cursor::tight_actions-returns-in-Not : goal.Cursor::tight_actions-returns-in-Not
Cursor::tight_actions-returns-in-Not t c =
    choices.by_symbol c.args.self.now _ _ c.in-Symbol.symbol Not c.in-Some.field-0.rest c.in-Some.ensures.0 c.in-Symbol.is c.in-Not.is c.moved_to-onward.ensures c.other_actions.result c.other_actions.ensures

pub Cursor::tight_actions-returns-in-Sign : goal.Cursor::tight_actions-returns-in-Sign
Cursor::tight_actions-returns-in-Sign t c =
    choices.by_symbol c.args.self.now _ _ c.in-Symbol.symbol (signed c.in-Sign.sign) c.in-Some.field-0.rest c.in-Some.ensures.0 c.in-Symbol.is c.in-Sign.is c.moved_to-onward.ensures c.grouped_actions.result c.grouped_actions.ensures

pub Cursor::tight_actions-returns-in-Short : goal.Cursor::tight_actions-returns-in-Short
Cursor::tight_actions-returns-in-Short t c =
    choices.by_symbol c.args.self.now _ _ c.in-Symbol.symbol c.in-Symbol.symbol c.in-Some.field-0.rest c.in-Some.ensures.0 c.in-Symbol.is refl refl None (λ n h. choices.no_action (read action_rules n) c.in-Symbol.symbol _ c.in-Short.is)
