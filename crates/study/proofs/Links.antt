-- What the calls do, as their links say it.
use Rattle.std.proofs.Common.{◌≡◌, ℕ, ◌*◌, ◌/◌, ◌<◌, Bool, true, length, slice_set, sym, ap, ◌∙◌, subst, arith}
use Rattle.meaning.specs.Lts.{Lts, count_below}
use Rattle.shelf.specs.Sheets.{Sheets}
use Rattle.meaning.specs.Verdicts as meant
use Rattle.meaning.proofs.Verdicts.{total-is}
use Rattle.formula.specs.declared.nodes.Nodes.{Nodes}
use Rattle.formula.specs.Nodes.{root, roots, OfFormula}
use Rattle.formula.proofs.Entries.{few_shapes, root_within}
use Rattle.marking.specs.Marking.{AllMarked}
use Rattle.study.specs.Study.{states, nodes, records, marked_as, Fits, said, NowJudged}
use Rattle.study.specs.declared.study.Study.{Study}
use Rattle.study.specs.declared.verdict.Verdict.{Verdict}

abbrev read : Bool → ℕ → ℕ → meant.Verdict
read b k t = record { holds = b; count = k; total = t; share = 1000 * k / t }

pub verdict_read : (M : Lts) (X : ℕ → Bool) (b : Bool) (k t : ℕ) → b ≡ X M.start → k ≡ count_below X M.states → t ≡ M.states → read b k t ≡ meant.verdict M X
verdict_read M X b k t p q r =
    ap (λ x. read x k t) p ∙ ap (λ x. read (X M.start) x t) q ∙ ap (λ x. read (X M.start) (meant.count_of M X) x) (r ∙ sym (total-is M))

-- no node of a formula is past the 48th
pub below_48 : (n : Nodes) (f k : ℕ) → f < length (roots n) → OfFormula n f k → k < 48
below_48 n f k l h = omega (arith, root_within n f l, few_shapes n, h.1)

pub now_judged : (M : Lts) (n : ℕ) (before after : Study) (sh sh' : Sheets) (v : Verdict) → Fits M sh before → AllMarked M (nodes before) n sh sh'
    → (k : ℕ) → k ≡ root (nodes before) n → said v ≡ meant.verdict M (sh'.on k) → nodes after ≡ nodes before
    → records after ≡ slice_set (records before) n (marked_as true) → states after ≡ states before → NowJudged M n before after sh sh' v
now_judged M n before after sh sh' v fits m k is verdict same rows over = record {
  fits = fits;
  marked = m;
  spared = λ i s l. m.others i s (λ h. absurd (omega (arith, below_48 (nodes before) n i m.entered h)));
  verdict_is = subst (λ (i : ℕ). said v ≡ meant.verdict M (sh'.on i)) is verdict;
  nodes_are = same;
  records_are = rows;
  states_are = over;
}
