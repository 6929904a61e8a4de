use Rattle.std.proofs.Common.{◌≡◌, ℕ, ◌<◌, List, Some, None, Option, length, ◌∙◌, subst, arith}
use Rattle.std.specs.Option.{MatchOption}
use Rattle.std.proofs.lemmas.Result.{err_from_is_err_and}
use Rattle.base.specs.declared.labels.Labels.{Labels}
use Rattle.base.specs.declared.refusal.Refusal.{Refusal}
use Rattle.model.specs.declared.cell.Cell.{Cell}
use Rattle.aut.specs.declared.header.Header.{Header}
use Rattle.aut.specs.Agreement.{OneReading}
use Rattle.aut.specs.Reading.{TextRead, TextRefused, Unaltered}
use Rattle.bench_api.specs.declared.reading.Reading.{Reading}
use Rattle.bench_api.specs.Reading.{tau_alone, FreshRead, FreshRefused}
use Rattle.bench_api.proofs.Rounds.{read_again, not_refused}
use Rattle.bench_api.proofs.reading.read_rounds.Goals as goal

-- what has come of the rounds before
abbrev SoFar : List ℕ → ℕ → List Cell → ℕ → List Cell → Option Reading → Type 0
SoFar text w cells i now last =
    MatchOption last ((i ≡ 0) × (now ≡ cells)) (λ x. (0 < i) × FreshRead text w cells now x.header x.labels)

module _ (one : OneReading) (text : List ℕ) (w : ℕ) (cells : List Cell) (i : ℕ) (now : List Cell) (fresh : Labels) (f : fresh ≡ tau_alone) where
  refused : (last : Option Reading) → SoFar text w cells i now last → (labels : Labels) (after : List Cell) (e : Refusal) →
      TextRefused text 65536 w fresh (length now) e → Unaltered fresh labels now after → FreshRefused text w cells after e
  refused None (n, same) labels after e why un =
      record {
        why = subst (λ x. TextRefused text 65536 w tau_alone (length x) e) same (subst (λ x. TextRefused text 65536 w x (length now) e) f why);
        cells_are = un.cells_are ∙ same;
      }
  refused (Some x) (n, r) labels after e why un =
      not_refused one text w cells now x.header x.labels r _ e (subst (λ y. TextRefused text 65536 w y (length now) e) f why)

  again : (last : Option Reading) → SoFar text w cells i now last → (labels : Labels) (after : List Cell) (h : Header) →
      FreshRead text w now after h labels → FreshRead text w cells after h labels
  again None (n, same) labels after h q = subst (λ x. FreshRead text w x after h labels) same q
  again (Some x) (n, r) labels after h q = read_again one text w cells now x.header x.labels r after h labels q

  read : (last : Option Reading) → SoFar text w cells i now last → (labels : Labels) (after : List Cell) (h : Header) →
      TextRead text 65536 w fresh labels now after h → FreshRead text w cells after h labels
  read last so labels after h q = again last so labels after h (subst (λ x. TextRead text 65536 w x labels now after h) f q)

pub returns-in_err-header : goal.returns-in_err-header
returns-in_err-header c =
    let p = err_from_is_err_and c.from_residual.result c.from_residual.ensures.1 in
    let r = c.in_err-header.ensures in
    rw (p.1, p.2)
    (omega arith, refused c.one_reading.ensures c.args.text.now c.args.slots c.args.cells.now c.loop.counter c.loop.cells c.new-labels.result c.new-labels.ensures c.loop.last c.loop.invariant _ _ _ r.0 r.1)

pub loop-preserved : goal.loop-preserved
loop-preserved c =
    (omega arith, read c.one_reading.ensures c.args.text.now c.args.slots c.args.cells.now c.loop.counter c.loop.cells c.new-labels.result c.new-labels.ensures c.loop.last c.loop.invariant _ _ _ c.in_ok-header.ensures)
