use Rattle.std.proofs.Common.{of_calls, ◌≡◌, Some, None, sym, refl, ap, subst, arith}
use Rattle.formula.specs.Vocabulary.{vocabulary}
use Rattle.formula.specs.declared.symbol.Symbol.TheVariants.{True, False, Not, Short, Path, Sign as signed}
use Rattle.formula.specs.Building.{Laid, BuildsPart}
use Rattle.formula.specs.Laying.{drafted, push, top}
use Rattle.formula.specs.Shapes.{not_node}
use Rattle.formula.specs.Levels.{stage, node_of}
use Rattle.formula.specs.Places.{ahead, Linked}
use Rattle.formula.specs.Reading.{OrLevel, Tight, and_then, read, part, link, formula_rules}
use Rattle.formula.specs.Trees.{Tree, TRUE, FALSE, NOT, short, path, all}
use Rattle.formula.proofs.Buildings as buildings
use Rattle.formula.proofs.Findings.{level_chain, none_found}
use Rattle.formula.proofs.Layings as layings
use Rattle.formula.proofs.Stages.{rank_small, tight-by}
use Rattle.formula.proofs.cursor.+formulas.Goals as goal

pub Cursor::formula-returns : goal.Cursor::formula-returns
Cursor::formula-returns t c =
    let names = vocabulary c.args.self.now.names in let j = c.in-Chain.connective in
    rw c.in-Chain.is
    (level_chain formula_rules j c.args.self.now (Laid names) _ _ (λ at s r s' o. rw (sym o.2, sym o.4) o.3)
    (λ x y s t u u' v w z h k i.
    let e : (drafted i.1.now ≡ push (drafted i.0.now) (node_of c.in-Chain.connective v w)) × (z ≡ top (drafted i.1.now)) = search of_calls in
    buildings.joined names j x y s t u u' i.0.now i.1.now v w z h k i.2 i.4 e.0 e.1) _ _ _ c.chain.ensures)

pub Cursor::negated-returns : goal.Cursor::negated-returns
Cursor::negated-returns t c =
    let d = c.in_ok-inner.ensures in (
      NOT d.0,
      (λ n h. ap (λ g. and_then g (λ u rest. Some (NOT u, rest))) (d.1 n (omega arith))),
      (
        layings.one_below (vocabulary c.args.self.now.names) not_node d.0 (drafted c.args.draft.now) _ (drafted c.put.new.self) c.in_ok-inner.inner.value d.2.0 d.2.1 c.put.ensures.after,
        c.put.ensures.number,
      ),
      d.3,
    )

pub Cursor::one_part-returns : goal.Cursor::one_part-returns
Cursor::one_part-returns t c =
    let d = c.in-Some.ensures in let y = c.in-Some.inner.value in let u = d.0 in (
      short c.args.operator u.0 u.1,
      (λ n h. ap (λ g. and_then g (λ p rest. Some (short c.args.operator p.0 p.1, rest))) (d.1 n h)),
      (
        layings.laid-short (vocabulary c.args.self.now.names) c.args.operator u.0 u.1 y.actions (drafted c.args.draft.now) (drafted c.part.new.draft)
            (drafted c.put.new.self) y.child d.2.1 d.2.0.0 d.2.0.1 c.put.ensures.after,
        c.put.ensures.number,
      ),
      d.3,
    )

pub Cursor::two_parts-returns : goal.Cursor::two_parts-returns
Cursor::two_parts-returns t c =
    let s = c.args.self.now in let q = c.args.quantifier in let l = c.in_ok-link.link.value in let on = c.in_ok-link.link.rest in
    let first = c.in-Some.first in let second = c.in-Some-part.second in let a = c.in_ok-inside.ensures in
    let d = subst (λ x. BuildsPart x c.args.draft.now c.part.new.draft (λ r. part (r OrLevel)) (Some first)) c.moved_to.ensures c.in-Some.ensures in
    let e = subst (λ x. Linked (ahead x) (link (ahead x)) (Some c.in_ok-link.link)) c.moved_to-2.ensures c.in_ok-link.ensures in
    let f = subst (λ x. BuildsPart x c.part.new.draft c.part-2.new.draft (λ r. part (r OrLevel)) (Some second)) c.moved_to-3.ensures c.in-Some-part.ensures in
    let last = c.in-Some-closed.second in let g = c.in-Some-closed.ensures in
    let p = d.0 in let u = f.0 in (
      path q l p.0 p.1 u.0 u.1,
      buildings.bracketed s q l p u c.in_ok-inside.inside first.rest on second.rest last.rest a.0 a.1 d.1 d.3 e.0 e.1 f.1 g.0,
      (
        layings.laid-path (vocabulary s.names) q l p.0 u.0 p.1 u.1 first.value.actions last.value.actions (drafted c.args.draft.now) (drafted c.part.new.draft)
            (drafted c.part-2.new.draft) (drafted c.put.new.self) first.value.child last.value.child d.2.1 (rw g.2 f.2.1) d.2.0.0 d.2.0.1 f.2.0.0 (rw g.2 f.2.0.1) c.put.ensures.after,
        c.put.ensures.number,
      ),
      omega (arith, a.1, d.3, e.1, f.3, g.1),
    )

pub Cursor::part-returns-in_default : goal.Cursor::part-returns-in_default
Cursor::part-returns-in_default t c =
    buildings.without_braces c.args.self.now c.args.draft.now c.with_formula.new.draft c.args.level c.with_formula.result c.in_default.ensures
    (c.with_formula.ensures all c.all.ensures)

pub Cursor::part-returns : goal.Cursor::part-returns
Cursor::part-returns t c =
    buildings.with_braces c.args.self.now c.moved_to.result c.moved_to-2.result c.args.draft.now c.after_braces.new.draft c.args.level c.in-Some.inside c.in-Some-braced.braces
    c.after_braces.result c.moved_to.ensures c.moved_to-2.ensures c.in-Some.ensures.0 c.in-Some.ensures.1 c.in-Some-braced.ensures c.after_braces.ensures

pub Cursor::after_braces-returns : goal.Cursor::after_braces-returns
Cursor::after_braces-returns t c = λ k h. (
  (k, TRUE),
  (λ n m. buildings.none_follows c.args.level k (ahead c.args.self.now) n c.if-can_begin.ensures),
  ((c.put-child.ensures.after, c.put-child.ensures.number), h),
  omega arith,
)

pub Cursor::with_formula-returns : goal.Cursor::with_formula-returns
Cursor::with_formula-returns t c = λ k h.
    let d = c.in_ok-inner.ensures in (
      (k, d.0),
      (λ n m. ap (λ g. and_then g (λ u rest. Some ((k, u), rest))) (d.1 n (omega (arith, (rank_small {X = Tree} (stage c.args.level)).1)))),
      (d.2, h),
      d.3,
    )

pub Cursor::tight-returns-in_err-first : goal.Cursor::tight-returns-in_err-first
Cursor::tight-returns-in_err-first t c =
    let s = c.args.self.now in
    none_found (λ names. Laid names c.args.draft.now c.args.draft.now) s 1 (λ n. read formula_rules n Tight) c.from_residual.result c.from_residual.ensures
    (tight-by formula_rules (ahead s) None (λ n h. buildings.no_symbol (read formula_rules n) (ahead s) c.in_err-first.ensures))

pub Cursor::tight-returns-in-True : goal.Cursor::tight-returns-in-True
Cursor::tight-returns-in-True t c =
    let s = c.args.self.now in
    buildings.by_symbol s _ c.args.draft.now c.put.new.self _ True c.in_ok-first.first.rest c.in_ok-first.ensures.0 c.in-True.is refl (Some (record { value = c.put.result; rest = c.in_ok-first.first.rest }))
    (TRUE, (λ n h. refl), (c.put.ensures.after, c.put.ensures.number), omega arith)

pub Cursor::tight-returns-in-False : goal.Cursor::tight-returns-in-False
Cursor::tight-returns-in-False t c =
    let s = c.args.self.now in
    buildings.by_symbol s _ c.args.draft.now c.put-in-False.new.self _ False c.in_ok-first.first.rest c.in_ok-first.ensures.0 c.in-False.is refl (Some (record { value = c.put-in-False.result; rest = c.in_ok-first.first.rest }))
    (FALSE, (λ n h. refl), (c.put-in-False.ensures.after, c.put-in-False.ensures.number), omega arith)

pub Cursor::tight-returns-in-Not : goal.Cursor::tight-returns-in-Not
Cursor::tight-returns-in-Not t c =
    buildings.by_symbol c.args.self.now _ c.args.draft.now c.negated.new.draft _ Not c.in_ok-first.first.rest c.in_ok-first.ensures.0 c.in-Not.is c.moved_to-onward.ensures c.negated.result c.negated.ensures

pub Cursor::tight-returns-in-Sign : goal.Cursor::tight-returns-in-Sign
Cursor::tight-returns-in-Sign t c =
    buildings.by_symbol c.args.self.now _ c.args.draft.now c.grouped.new.draft _ (signed c.in-Sign.sign) c.in_ok-first.first.rest c.in_ok-first.ensures.0 c.in-Sign.is c.moved_to-onward.ensures c.grouped.result c.grouped.ensures

pub Cursor::tight-returns-in-Short : goal.Cursor::tight-returns-in-Short
Cursor::tight-returns-in-Short t c =
    buildings.by_symbol c.args.self.now _ c.args.draft.now c.one_part.new.draft _ (Short c.in-Short.operator) c.in_ok-first.first.rest c.in_ok-first.ensures.0 c.in-Short.is c.moved_to-onward.ensures c.one_part.result c.one_part.ensures

pub Cursor::tight-returns-in-Path : goal.Cursor::tight-returns-in-Path
Cursor::tight-returns-in-Path t c =
    buildings.by_symbol c.args.self.now _ c.args.draft.now c.two_parts.new.draft _ (Path c.in-Path.quantifier) c.in_ok-first.first.rest c.in_ok-first.ensures.0 c.in-Path.is c.moved_to-onward.ensures c.two_parts.result c.two_parts.ensures

pub Cursor::tight-returns-in-Tau : goal.Cursor::tight-returns-in-Tau
Cursor::tight-returns-in-Tau t c =
    buildings.by_symbol c.args.self.now _ c.args.draft.now c.args.draft.now c.in_ok-first.first.value c.in_ok-first.first.value c.in_ok-first.first.rest c.in_ok-first.ensures.0 refl refl None
    (λ n h. buildings.no_formula (read formula_rules n) c.in_ok-first.first.value _ c.in-Tau.is)
