use Rattle.std.proofs.Common.{rules, ◌≡◌, map, Some, None, sym, ap, ◌∙◌, subst}
use Rattle.std.specs.Option.{option_map}
use Rattle.std.proofs.lemmas.Result.{err_from_is_err_and}
use Rattle.base.specs.declared.refusal.Refusal.TheVariants.{Full}
use Rattle.formula.specs.Checking.{ChecksTokens}
use Rattle.formula.specs.Places.{ahead}
use Rattle.formula.specs.Shapes.{shape}
use Rattle.formula.specs.Vocabulary.{vocabulary}
use Rattle.formula.proofs.Entries.{tree_laid, extended, no_room, checked, listed, unlisted}
use Rattle.formula.proofs.cursor.Cursor.check_tokens.Goals as goal

pub with-requires : goal.with-requires
with-requires c =
    let v = vocabulary c.args.self.now.names in let n = c.args.nodes.now in
    let found : c.whole.result ≡ Some c.in_ok-ok_or.field-0 = search rules in
    let some : c.whole.new.draft.nodes ≡ Some c.in_ok-written.written = search rules in
    let t = tree_laid v (ahead c.args.self.now) n _ _ _ _ c.from_nodes-draft.ensures found c.whole.ensures in
    extended v t.0 n _ (t.2 ∙ ap (option_map (λ m. map shape m)) some)

pub returns : goal.returns
returns c =
    let v = vocabulary c.args.self.now.names in let n = c.args.nodes.now in
    let found : c.whole.result ≡ Some c.in_ok-ok_or.field-0 = search rules in
    let some : c.whole.new.draft.nodes ≡ Some c.in_ok-written.written = search rules in
    let t = tree_laid v (ahead c.args.self.now) n _ _ _ _ c.from_nodes-draft.ensures found c.whole.ensures in
    subst (ChecksTokens v (ahead c.args.self.now) n) (sym c.ok_or-3.ensures.value)
    (checked v t.0 n _ (t.2 ∙ ap (option_map (λ m. map shape m)) some) (ahead c.args.self.now) t.1
    (listed v (ahead c.args.self.now) c.if-not-all_listed.ensures) c.with.result c.with.ensures.variant c.with.ensures.nodes c.with.ensures.formulas)

pub returns-then-not-all_listed : goal.returns-then-not-all_listed
returns-then-not-all_listed c =
    let v = vocabulary c.args.self.now.names in
    let found : c.whole.result ≡ Some c.in_ok-ok_or.field-0 = search rules in
    let t = tree_laid v (ahead c.args.self.now) c.args.nodes.now _ _ _ _ c.from_nodes-draft.ensures found c.whole.ensures in
    (t.0, t.1, unlisted v (ahead c.args.self.now) c.if-not-all_listed.ensures)

pub returns-in_err-written : goal.returns-in_err-written
returns-in_err-written c =
    let v = vocabulary c.args.self.now.names in let n = c.args.nodes.now in
    let found : c.whole.result ≡ Some c.in_ok-ok_or.field-0 = search rules in
    let none : c.whole.new.draft.nodes ≡ None = search rules in
    let why : c.in_err-written.field-0.0 ≡ Full = search rules in
    let t = tree_laid v (ahead c.args.self.now) n _ _ _ _ c.from_nodes-draft.ensures found c.whole.ensures in
    let p = err_from_is_err_and c.from_residual-in_err-written.result c.from_residual-in_err-written.ensures.1 in
    rw (p.1, p.2, why)
    (t.0, t.1, listed v (ahead c.args.self.now) c.if-not-all_listed.ensures, no_room v t.0 n (t.2 ∙ ap (option_map (λ m. map shape m)) none))
