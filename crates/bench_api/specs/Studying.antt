-- What a study says of a formula, over cells, memory and lists that a caller outside hands over.
use Rattle.std.specs.Prelude.{◌≡◌, ◌≢◌, ℕ, ◌<◌, ◌⊎◌, false, List, [], length, Some, Ok, Err, Result}
use Rattle.base.specs.Refusals.{number_of}
use Rattle.base.specs.declared.refusal.Refusal.{Refusal}
use Rattle.base.specs.declared.refusal.Refusal.TheVariants.{Short}
use Rattle.meaning.specs.Formula.{Formula}
use Rattle.meaning.specs.Lts.{Lts}
use Rattle.meaning.specs.Scales.{Scale}
use Rattle.model.specs.declared.cell.Cell.{Cell}
use Rattle.model.specs.Cells.{grid_refusal}
use Rattle.model.specs.Grids.{GridOver}
use Rattle.search.specs.declared.step.Step.{Step}
use Rattle.search.specs.Finding.{Held, TooShort, path_in, Counted}
use Rattle.study.specs.Laws.{EnterLaw, IsVerdictOn, HandsOut}
use Rattle.study.specs.Runs.{Reads}
use Rattle.study.specs.Study.{path_call}
use Rattle.bench_api.specs.declared.studying.Said.{Said}
use Rattle.bench_api.specs.declared.studying.StudyOutcome.{StudyOutcome}
use Rattle.bench_api.specs.Asking.{told}
use Rattle.bench_api.specs.Marks.{letters}

-- A study over M has entered the formula that the text is by the labels, judged it, and been asked
-- for its path from state 0: the verdict is on that formula, and what is handed out of it stands in
-- the lists.
pub record Studied {V : Type 0} (scale : Scale V) (tariffs : List ℕ) (M : Lts) (text : List ℕ)
    (labels : List (List ℕ)) (stem cycle : List Step) (said : Said) : Type 0 where
  pub formula : Formula
  pub is : Reads text labels formula
  pub verdict : IsVerdictOn M formula said.verdict
  pub path : HandsOut (path_call scale tariffs 0 0) M formula (path_in stem cycle said.found)
  pub counted : Counted stem cycle said.found

-- Why one of these calls over M was refused, with a shelf of so many states.
pub data Unstudied {V : Type 0} (M : Lts) (text : List ℕ) (labels : List (List ℕ)) (covers : ℕ)
    (before : Held V) : Refusal → Type 0 where
  not_opened : covers ≢ M.states → Unstudied M text labels covers before Short
  not_entered : {e : Refusal} → EnterLaw [] text labels (Err e)
      → Unstudied M text labels covers before e
  few_entries : TooShort M.states before → Unstudied M text labels covers before Short

-- What these calls come to. If one is refused, the lists are as before.
abbrev pub Studies : {V : Type 0} → Scale V → List ℕ → Lts → List ℕ → List (List ℕ) → ℕ → Held V
    → Held V → Result Said Refusal → Type 0
Studies scale tariffs M text labels covers before after (Ok said) =
    Studied scale tariffs M text labels after.stem after.cycle said
    × (after.owners ≡ before.owners)
Studies scale tariffs M text labels covers before after (Err e) =
    Unstudied M text labels covers before e × (after ≡ before)

-- what is told of it
abbrev pub told_of_study : Result Said Refusal → StudyOutcome
told_of_study (Ok said) = record {
  refusal = 0;
  holds = said.verdict.holds;
  count = said.verdict.count;
  share = said.verdict.share;
  found = told (Some said.found);
}
told_of_study (Err e) = record {
  refusal = number_of e;
  holds = false;
  count = 0;
  share = 0;
  found = record { kind = 0; stem = 0; cycle = 0 };
}

module _ (text : List ℕ) (cells : List Cell) (n w : ℕ) where
  -- Why a study over a grid is refused, and with which refusal. The memory covers so many states of
  -- the n that the grid over the cells is to have.
  pub data NoStudy (covered : ℕ) (stem cycle : List Step) : Refusal → Type 0 where
    no_grid : {e : Refusal} → grid_refusal cells n w 0 ≡ Some e → NoStudy covered stem cycle e
    few_memory : covered ≢ n → NoStudy covered stem cycle Short
    no_formula : {e : Refusal} → EnterLaw [] text letters (Err e) → NoStudy covered stem cycle e
    few_steps : (length stem < n) ⊎ (length cycle < n) → NoStudy covered stem cycle Short

  module _ (covered : ℕ) {V : Type 0} (scale : Scale V) (tariffs : List ℕ) where
    -- The lists before and after, and what the study said. If it is refused, they are as before.
    abbrev pub StudyAnswer : (stem cycle stem' cycle' : List Step) → Result Said Refusal → Type 0
    StudyAnswer stem cycle stem' cycle' (Ok said) =
        (M : Lts) × GridOver M cells n w 0 × Studied scale tariffs M text letters stem' cycle' said
    StudyAnswer stem cycle stem' cycle' (Err e) =
        NoStudy covered stem cycle e × (stem' ≡ stem) × (cycle' ≡ cycle)

    -- and what is told of it
    pub record StudyTold (stem cycle stem' cycle' : List Step) (outcome : StudyOutcome)
        : Type 0 where
      pub said : Result Said Refusal
      pub answer : StudyAnswer stem cycle stem' cycle' said
      pub told_is : outcome ≡ told_of_study said
