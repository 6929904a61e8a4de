use Rattle.std.proofs.Common.{sym, subst}
use Rattle.formula.specs.Vocabulary.{vocabulary}
use Rattle.formula.specs.Checking.{Whole}
use Rattle.formula.specs.Laying.{drafted}
use Rattle.formula.specs.Places.{ahead}
use Rattle.formula.proofs.Entries.{tree-none, tree-more, tree_some}
use Rattle.formula.proofs.cursor.Cursor.whole.Goals as goal

pub returns-in_err-built : goal.returns-in_err-built
returns-in_err-built c =
    let ts = ahead c.args.self.now in let v = vocabulary c.args.self.now.names in
    subst (Whole v ts (drafted c.args.draft.now) (drafted c.formula.new.draft)) (sym c.from_residual.ensures)
    (tree-none ts c.in_err-built.ensures)

pub returns-then-not-is_empty : goal.returns-then-not-is_empty
returns-then-not-is_empty c =
    let d = c.in_ok-built.ensures in
    tree-more (ahead c.args.self.now) c.in_ok-built.built.rest.now d.0 d.1 c.if-not-is_empty.ensures

pub returns : goal.returns
returns c =
    let d = c.in_ok-built.ensures in
    (d.0, tree_some (ahead c.args.self.now) c.in_ok-built.built.rest.now d.0 d.1 c.if-not-is_empty.ensures, d.2.0)
