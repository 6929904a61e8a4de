-- What the calls of one study come to, from what each promises.
use Rattle.std.proofs.Common.{◌≡◌, ℕ, ◌≤◌, inl, inr, List, [], ◌∷◌, length, Ok, Err, refl, ap, sym, ◌∙◌, subst, arith, Result}
use Rattle.base.specs.declared.refusal.Refusal.{Refusal}
use Rattle.base.specs.declared.refusal.Refusal.TheVariants.{Short, Garbled, Range, Crowded, Grammar, Nameless, Full, Unheard, Silent, TooBig}
use Rattle.meaning.specs.Formula.{Formula}
use Rattle.meaning.specs.Lts.{Lts}
use Rattle.meaning.specs.Scales.{Scale}
use Rattle.shelf.specs.Sheets.{Sheets}
use Rattle.model.specs.declared.cell.Cell.{Cell}
use Rattle.model.specs.Grids.{GridOver}
use Rattle.search.specs.declared.found.Found.{Found}
use Rattle.search.specs.Finding.{Held, TooShort, path_in}
use Rattle.study.specs.Laws.{JudgeLaw, PathLaw, HandsOut, path_answer, room}
use Rattle.study.specs.Runs.{Call, enter, judge, FormulaOf, Reads}
use Rattle.study.specs.Study.{path_call, Fits, Opens, Judges, FindsPath}
use Rattle.study.specs.declared.study.Study.{Study}
use Rattle.study.specs.declared.verdict.Verdict.{Verdict}
use Rattle.bench_api.specs.declared.studying.Said.{Said}
use Rattle.bench_api.specs.Marks.{letters}
use Rattle.bench_api.specs.Studying.{Unstudied, not_opened, not_entered, few_entries, Studies, NoStudy, few_memory, no_formula, few_steps, StudyAnswer}

module _ (M : Lts) (text : List ℕ) (labels : List (List ℕ)) where
  abbrev entered : ℕ → List Call
  entered n = enter text labels (Ok n) ∷ []

  reads : (n : ℕ) (f : Formula) → FormulaOf (entered n) n f → Reads text labels f
  reads n f (inl h) = h.1
  reads n f (inr h) = absurd h

  pub unopened : {V : Type 0} (sh : Sheets) (before : Held V) (e : Refusal) → Opens M sh (Err e) → Unstudied M text labels sh.covers before e
  unopened sh before Short o = not_opened o
  unopened sh before Garbled o = absurd o
  unopened sh before Range o = absurd o
  unopened sh before Crowded o = absurd o
  unopened sh before Grammar o = absurd o
  unopened sh before Nameless o = absurd o
  unopened sh before Full o = absurd o
  unopened sh before Unheard o = absurd o
  unopened sh before Silent o = absurd o
  unopened sh before TooBig o = absurd o

  -- the model and the shelf are of the study still
  pub still_fits : {S : Type 0} (sheets : S → Sheets) (n : ℕ) (st st' : Study) (shelf shelf' : S) (v : Verdict)
      → Judges sheets M n st st' shelf shelf' (Ok v) → Fits M (sheets shelf') st'
  still_fits sheets n st st' shelf shelf' v j = (j.fits.0 ∙ sym j.states_are, j.marked.covers ∙ j.fits.1 ∙ sym j.states_are)

  module _ {V : Type 0} (scale : Scale V) (tariffs : List ℕ) (before after : Held V) (n : ℕ) (v : Verdict) where
    abbrev judged : List Call
    judged = judge n (Ok v) ∷ entered n

    pub studied : (covers : ℕ) (st : Study) (sh : Sheets) (r : Found) → JudgeLaw M M.states (entered n) n (Ok v)
        → PathLaw (path_call scale tariffs n 0) M M.states judged (room before) (path_answer after (Ok r))
        → FindsPath (path_call scale tariffs n 0) M sh st before after (Ok r)
        → Studies scale tariffs M text labels covers before after (Ok (record { verdict = v; found = r }))
    studied covers st sh r (_, (f, only, verdict)) (_, _, _, _, (g, same, path)) (_, _, (_, _, found)) = (
      record {
        formula = f;
        is = reads n f only.0;
        verdict = verdict;
        path = subst (λ x. HandsOut (path_call scale tariffs 0 0) M x (path_in after.stem after.cycle r)) (only.1 g same.0) path;
        counted = found.counted;
      },
      found.lent.owners,
    )

    pub pathless : (covers : ℕ) (st : Study) (sh : Sheets) (e : Refusal) → Fits M sh st
        → PathLaw (path_call scale tariffs n 0) M M.states judged (room before) (path_answer after (Err e))
        → FindsPath (path_call scale tariffs n 0) M sh st before after (Err e)
        → Studies scale tariffs M text labels covers before after (Err e)
    pathless covers st sh Short fits law (inl h) = absurd (h.0 fits)
    pathless covers st sh Short fits law (inr (_, _, (inl h, same))) = absurd (h (fits.1 ∙ sym fits.0))
    pathless covers st sh Short fits law (inr (_, _, (inr h, same))) = (few_entries h.1.1, same)
    pathless covers st sh Unheard fits law h = absurd (law.1 (inl refl))
    pathless covers st sh Range fits law h = absurd (let some = M.lawful.some_states in omega (arith, law.2))
    pathless covers st sh Garbled fits law h = absurd h
    pathless covers st sh Crowded fits law h = absurd h
    pathless covers st sh Grammar fits law h = absurd h
    pathless covers st sh Nameless fits law h = absurd h
    pathless covers st sh Full fits law h = absurd h
    pathless covers st sh Silent fits law h = absurd h
    pathless covers st sh TooBig fits law h = absurd h

module _ (M : Lts) (text : List ℕ) (cells : List Cell) (n w : ℕ) (grid : GridOver M cells n w 0) {V : Type 0} (scale : Scale V) (tariffs : List ℕ) (covered : ℕ) where
  -- the work list is long enough for every model
  short : (before : Held V) → 65536 ≤ length before.work → TooShort M.states before → NoStudy text cells n w covered before.stem before.cycle Short
  short before long (inl l) = absurd (let few = M.lawful.few_states in omega arith)
  short before long (inr (inl l)) = few_steps (inl (omega (arith, grid.states_are)))
  short before long (inr (inr l)) = few_steps (inr (omega (arith, grid.states_are)))

  none : (before : Held V) (e : Refusal) → 65536 ≤ length before.work → Unstudied M text letters covered before e → NoStudy text cells n w covered before.stem before.cycle e
  none before _ long (not_opened c) = few_memory (λ e. c (e ∙ sym grid.states_are))
  none before _ long (not_entered l) = no_formula l
  none before _ long (few_entries l) = short before long l

  handed : (before after : Held V) (r : Result Said Refusal) → 65536 ≤ length before.work → Studies scale tariffs M text letters covered before after r
      → StudyAnswer text cells n w covered scale tariffs before.stem before.cycle after.stem after.cycle r
  handed before after (Ok said) long h = (M, grid, h.0)
  handed before after (Err e) long h = (none before e long h.0, ap (λ (x : Held V). x.stem) h.1, ap (λ (x : Held V). x.cycle) h.1)

  pub answered : (labels : List (List ℕ)) → labels ≡ letters → (covers : ℕ) → covers ≡ covered → (before after : Held V) (r : Result Said Refusal) → 65536 ≤ length before.work
      → Studies scale tariffs M text labels covers before after r → StudyAnswer text cells n w covered scale tariffs before.stem before.cycle after.stem after.cycle r
  answered labels same covers e before after r long h =
      handed before after r long (subst (λ x. Studies scale tariffs M text x covered before after r) same (subst (λ x. Studies scale tariffs M text labels x before after r) e h))
