-- What a question for a deciding path answers, as the answer to a caller outside.
use Rattle.std.proofs.Common.{◌≡◌, ℕ, ◌≤◌, inl, inr, List, length, get_or, Err, None, ap, sym, ◌∙◌, subst, arith}
use Rattle.base.specs.declared.refusal.Refusal.{Refusal}
use Rattle.base.specs.declared.refusal.Refusal.TheVariants.{Short, Garbled, Range, Crowded, Grammar, Nameless, Full, Unheard, Silent, TooBig}
use Rattle.meaning.specs.DecidingPaths.{HandedOutOf}
use Rattle.meaning.specs.Lts.{Lts}
use Rattle.meaning.specs.Scales.{Scale}
use Rattle.shelf.specs.Sheets.{Sheets}
use Rattle.formula.specs.declared.nodes.Nodes.{Nodes}
use Rattle.marking.specs.Marking.{AllMarked, Marked}
use Rattle.model.specs.declared.cell.Cell.{Cell}
use Rattle.model.specs.Grids.{GridOver}
use Rattle.paths.specs.Asking.{Asked, AnswerTo}
use Rattle.search.specs.declared.found.Found.{Found}
use Rattle.search.specs.declared.step.Step.{Step}
use Rattle.search.specs.Finding.{Held, TooShort, path_in}
use Rattle.bench_api.specs.Marks.{TableOf}
use Rattle.bench_api.specs.Asking.{PathIn, NoAnswer, few_memory, few_steps, Handed, PathAnswer}

module _ (text : List ℕ) (cells : List Cell) (n w : ℕ) (M : Lts) (grid : GridOver M cells n w 0) (nodes : Nodes) (table : TableOf text nodes) where
  -- a shelf of the model's states is marked
  module _ {S : Type 0} (sheets : S → Sheets) (covered : ℕ) (before after : S) (covers : (sheets before).covers ≡ covered) where
    pub unmarked : {V : Type 0} (scale : Scale V) (tariffs : List ℕ) (e : Refusal) → Marked sheets M nodes 0 before after (Err e) → (stem cycle : List Step) → NoAnswer text cells n w covered stem cycle
    unmarked scale tariffs Short m stem cycle = few_memory (λ e. absurd (m.0 (covers ∙ e ∙ sym grid.states_are)))
    unmarked scale tariffs Unheard m stem cycle = absurd (omega (arith, table.alone, m.1))
    unmarked scale tariffs Garbled m stem cycle = absurd m
    unmarked scale tariffs Range m stem cycle = absurd m
    unmarked scale tariffs Crowded m stem cycle = absurd m
    unmarked scale tariffs Grammar m stem cycle = absurd m
    unmarked scale tariffs Nameless m stem cycle = absurd m
    unmarked scale tariffs Full m stem cycle = absurd m
    unmarked scale tariffs Silent m stem cycle = absurd m
    unmarked scale tariffs TooBig m stem cycle = absurd m

  module _ {V : Type 0} (scale : Scale V) (tariffs : List ℕ) (blank sheets : Sheets) (marked : AllMarked M nodes 0 blank sheets) where
    abbrev Q : Asked V
    Q = record { scale = scale; tariff = λ a. get_or tariffs a 0; lts = M; sheets = sheets; nodes = nodes; formula = 0; state = 0 }

    pub handed : (before after : Held V) (r : Found) → PathIn Q before after r → Handed text cells n w scale tariffs after.stem after.cycle r
    handed before after r p = record {
      lts = M;
      grid = grid;
      tree = table.formula.tree;
      is = table.formula.is;
      path = subst (λ f. HandedOutOf scale (λ a. get_or tariffs a 0) M f 0 (path_in after.stem after.cycle r)) table.means (p.path marked.right);
      counted = p.counted;
    }

    -- the work list is long enough for every model
    short : (covered : ℕ) (before : Held V) → 65536 ≤ length before.work → TooShort M.states before → NoAnswer text cells n w covered before.stem before.cycle
    short covered before long (inl l) = absurd (let few = M.lawful.few_states in omega arith)
    short covered before long (inr (inl l)) = few_steps (inl (omega (arith, grid.states_are)))
    short covered before long (inr (inr l)) = few_steps (inr (omega (arith, grid.states_are)))

    unanswered : (covered : ℕ) (before after : Held V) (e : Refusal) → 65536 ≤ length before.work → AnswerTo Q before after (Err e)
        → NoAnswer text cells n w covered before.stem before.cycle × (after ≡ before)
    unanswered covered before after Short long (inl c, same) = absurd (c (marked.covers ∙ marked.same_states))
    unanswered covered before after Short long (inr r, same) = (short covered before long r.1.1, same)
    unanswered covered before after Unheard long r = absurd (omega (arith, table.alone, r.1))
    unanswered covered before after Range long r = absurd (let b = M.lawful.some_states in omega (arith, r.1))
    unanswered covered before after Garbled long r = absurd r
    unanswered covered before after Crowded long r = absurd r
    unanswered covered before after Grammar long r = absurd r
    unanswered covered before after Nameless long r = absurd r
    unanswered covered before after Full long r = absurd r
    unanswered covered before after Silent long r = absurd r
    unanswered covered before after TooBig long r = absurd r

    pub refused : (covered : ℕ) (before after : Held V) (e : Refusal) → 65536 ≤ length before.work → AnswerTo Q before after (Err e)
        → PathAnswer text cells n w covered scale tariffs before.stem before.cycle after.stem after.cycle None
    refused covered before after e long h =
        let p = unanswered covered before after e long h in
        (p.0, ap (λ (x : Held V). x.stem) p.1, ap (λ (x : Held V). x.cycle) p.1)

-- the same of lists that are as those
pub moved : (P : List Step → List Step → Type 0) (s t : List Step) {s' t' : List Step} → P s t → s' ≡ s → t' ≡ t → P s' t'
moved P s t {s' = s'} {t' = t'} h a b = subst (λ x. P x t') (sym a) (subst (P s) (sym b) h)
