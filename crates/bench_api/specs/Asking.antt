-- What asking for a deciding path comes to, over cells, memory and lists that a caller outside
-- hands over.
use Rattle.std.specs.Prelude.{◌≡◌, ◌≢◌, ℕ, ◌<◌, ◌⊎◌, List, get_or, length}
use Rattle.std.specs.Prelude.{IsSome, Some, None, Option, Ok, Err, Result}
use Rattle.base.specs.declared.refusal.Refusal.{Refusal}
use Rattle.meaning.specs.DecidingPaths.{HandedOutOf}
use Rattle.meaning.specs.Lts.{Lts}
use Rattle.meaning.specs.Scales.{Scale}
use Rattle.formula.specs.Entering.{IsFormula}
use Rattle.formula.specs.Formulas.{by_names}
use Rattle.formula.specs.Nodes.{formula_of}
use Rattle.formula.specs.Trees.{Tree}
use Rattle.model.specs.declared.cell.Cell.{Cell}
use Rattle.model.specs.Cells.{grid_refusal}
use Rattle.model.specs.Grids.{GridOver}
use Rattle.paths.specs.Asking.{Asked, RightSheets, AnswerTo}
use Rattle.search.specs.declared.found.Found.{Found}
use Rattle.search.specs.declared.found.Found.TheVariants as found
use Rattle.search.specs.declared.step.Step.{Step}
use Rattle.search.specs.Finding.{Held, path_in, Counted}
use Rattle.bench_api.specs.declared.asking.PathOutcome.{PathOutcome}
use Rattle.bench_api.specs.Marks.{vocabulary, NotEntered}

-- what is told of what was found
abbrev pub told : Option Found → PathOutcome
told None = record { kind = 0; stem = 0; cycle = 0 }
told (Some found.None) = record { kind = 1; stem = 0; cycle = 0 }
told (Some (found.Ended n)) = record { kind = 2; stem = n; cycle = 0 }
told (Some (found.Looping n m)) = record { kind = 3; stem = n; cycle = m }

-- What was found stands in the lists: a path to be handed out, if the marks are right.
pub record PathIn {V : Type 0} (Q : Asked V) (before after : Held V) (r : Found) : Type 0 where
  pub path : RightSheets Q.lts Q.nodes Q.formula Q.sheets
      → HandedOutOf Q.scale Q.tariff Q.lts (formula_of Q.nodes Q.formula) Q.state
      (path_in after.stem after.cycle r)
  pub counted : Counted after.stem after.cycle r
  pub owners : after.owners ≡ before.owners

-- what came of a question that was asked some times over, the last time
abbrev pub FoundLast : {V : Type 0} → Asked V → Held V → Held V → Result Found Refusal → Type 0
FoundLast Q before after (Ok r) = PathIn Q before after r
FoundLast Q before after (Err e) = AnswerTo Q before after (Err e)

module _ (text : List ℕ) (cells : List Cell) (n w : ℕ) where
  -- Why there is no answer, over two lists of steps. The memory covers so many states of the n that
  -- a grid over the cells is to have.
  pub data NoAnswer (covered : ℕ) (stem cycle : List Step) : Type 0 where
    no_grid : IsSome (grid_refusal cells n w 0) → NoAnswer covered stem cycle
    no_formula : NotEntered text → NoAnswer covered stem cycle
    few_memory : covered ≢ n → NoAnswer covered stem cycle
    few_steps : (length stem < n) ⊎ (length cycle < n) → NoAnswer covered stem cycle

  -- What is handed out of the formula that the text is, from state 0 of the grid over the cells,
  -- stands in the lists.
  pub record Handed {V : Type 0} (scale : Scale V) (tariffs : List ℕ) (stem cycle : List Step)
      (r : Found) : Type 0 where
    pub lts : Lts
    pub grid : GridOver lts cells n w 0
    pub tree : Tree
    pub is : IsFormula text tree
    pub path : HandedOutOf scale (λ a. get_or tariffs a 0) lts (by_names vocabulary tree) 0
        (path_in stem cycle r)
    pub counted : Counted stem cycle r

  module _ (covered : ℕ) {V : Type 0} (scale : Scale V) (tariffs : List ℕ) where
    -- The lists before and after, and what was found, if there is an answer. If there is none, they
    -- are as before.
    abbrev pub PathAnswer : (stem cycle stem' cycle' : List Step) → Option Found → Type 0
    PathAnswer stem cycle stem' cycle' None =
        NoAnswer covered stem cycle × (stem' ≡ stem) × (cycle' ≡ cycle)
    PathAnswer stem cycle stem' cycle' (Some r) = Handed scale tariffs stem' cycle' r

    -- and what is told of it
    pub record PathTold (stem cycle stem' cycle' : List Step) (outcome : PathOutcome)
        : Type 0 where
      pub found : Option Found
      pub answer : PathAnswer stem cycle stem' cycle' found
      pub told_is : outcome ≡ told found
