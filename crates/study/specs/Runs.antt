-- Lists of calls on one study, with their answers.
use Rattle.std.specs.Prelude.{◌≡◌, ℕ, ◌+◌, ◌<◌, ◌≤◌, ◌⊎◌, Bool, true, List, [], ◌∷◌, Ok, Err}
use Rattle.std.specs.Prelude.{Option, Result}
use Rattle.base.specs.declared.refusal.Refusal.{Refusal}
use Rattle.base.specs.declared.refusal.Refusal.TheVariants.{Short, Range, Unheard}
use Rattle.meaning.specs.DecidingPaths.{DecidingPath, HandedOutOf}
use Rattle.meaning.specs.Formula.{Formula}
use Rattle.meaning.specs.Lts.{Lts}
use Rattle.meaning.specs.Scales.{Scale}
use Rattle.shelf.specs.Sheets.{Sheets}
use Rattle.formula.specs.Formulas.{by_names, size}
use Rattle.formula.specs.Grammar.{Parses}
use Rattle.formula.specs.Nodes.{formula_of}
use Rattle.formula.specs.Trees.{Tree}
use Rattle.formula.specs.Vocabulary.{by_labels}
use Rattle.paths.specs.Asking.{RightSheets}
use Rattle.study.specs.Study.{states, nodes, IsJudged, Opens, Enters, Judges, Asks}
use Rattle.study.specs.declared.study.Study.{Study}
use Rattle.study.specs.declared.verdict.Verdict.{Verdict}

-- A call, with what it was answered: of a text and a label list; of a number; of a number and a
-- state; of these and tariffs. Which weight and which lists a path had is not told, since it writes
-- neither study nor sheets.
pub data Call : Type 0 where
  enter : List ℕ → List (List ℕ) → Result ℕ Refusal → Call
  judge : ℕ → Result Verdict Refusal → Call
  ask : ℕ → ℕ → Result Bool Refusal → Call
  path : ℕ → ℕ → List ℕ → Result (Option DecidingPath) Refusal → Call

-- no path is lighter than another
abbrev pub no_weight : Scale (Unit {0})
no_weight = record { at_most = λ v w. true; join = λ v c. v; start = tt }

-- What a path answers by the study and the sheets, whatever its weight, tariffs and lists were: if
-- the sheets are right, a deciding path where there is one; 8, 3, or 1 for a list.
abbrev pub PathTells : Lts → Sheets → Study → ℕ → ℕ → Result (Option DecidingPath) Refusal → Type 0
PathTells M sh st n s (Ok p) =
    IsJudged st n × (s < states st)
    × (RightSheets M (nodes st) n sh
    → HandedOutOf no_weight (λ a. 0) M (formula_of (nodes st) n) s p)
PathTells M sh st n s (Err Short) = IsJudged st n × (s < states st)
PathTells M sh st n s (Err Unheard) = ¬ IsJudged st n
PathTells M sh st n s (Err Range) = IsJudged st n × (states st ≤ s)
PathTells M sh st n s (Err e) = ⊥

-- others may write the sheets from 56 on
pub record Elsewhere (before after : Sheets) : Type 0 where
  pub covers : after.covers ≡ before.covers
  pub same : (k s : ℕ) → k < 56 → after.on k s ≡ before.on k s

-- The calls so far, the newest first, lead from a study just opened over a model and a shelf to
-- this study and these sheets. Each is a call on that model and that shelf, and finds the study and
-- the sheets as the one before left them; its link is what the call promises.
pub data Run (M : Lts) : List Call → Study → Sheets → Type 0 where
  opened : {st : Study} {sh : Sheets} → Opens M sh (Ok st) → Run M [] st sh
  entered : {cs : List Call} {st st' : Study} {sh : Sheets} {text : List ℕ}
      {labels : List (List ℕ)} {r : Result ℕ Refusal} →
      Run M cs st sh → Enters text labels st st' r → Run M (enter text labels r ∷ cs) st' sh
  judged : {cs : List Call} {st st' : Study} {sh sh' : Sheets} {n : ℕ}
      {r : Result Verdict Refusal} →
      Run M cs st sh → Judges (λ x. x) M n st st' sh sh' r → Run M (judge n r ∷ cs) st' sh'
  asked : {cs : List Call} {st : Study} {sh : Sheets} {n s : ℕ} {r : Result Bool Refusal} →
      Run M cs st sh → Asks M sh st n s r → Run M (ask n s r ∷ cs) st sh
  path_found : {cs : List Call} {st : Study} {sh : Sheets} {n s : ℕ} {tariffs : List ℕ}
      {r : Result (Option DecidingPath) Refusal} →
      Run M cs st sh → PathTells M sh st n s r → Run M (path n s tariffs r ∷ cs) st sh
  elsewhere : {cs : List Call} {st : Study} {sh sh' : Sheets} →
      Run M cs st sh → Elsewhere sh sh' → Run M cs st sh'

-- a formula that the grammar reads a text as, by a label list
abbrev pub Reads : List ℕ → List (List ℕ) → Formula → Type 0
Reads text labels f = (t : Tree) × Parses text t × (f ≡ by_names (by_labels labels) t)

-- f is a formula of number n: that of the text whose entering was answered so
abbrev pub FormulaOf : List Call → ℕ → Formula → Type 0
FormulaOf [] n f = ⊥
FormulaOf (enter text labels (Ok m) ∷ cs) n f =
    ((m ≡ n) × Reads text labels f) ⊎ FormulaOf cs n f
FormulaOf (c ∷ cs) n f = FormulaOf cs n f

-- and the only one
abbrev pub OnlyFormulaOf : List Call → ℕ → Formula → Type 0
OnlyFormulaOf cs n f = FormulaOf cs n f × ((g : Formula) → FormulaOf cs n g → g ≡ f)

-- a judge of number n was not refused
abbrev pub JudgedIn : List Call → ℕ → Type 0
JudgedIn [] n = ⊥
JudgedIn (judge m (Ok v) ∷ cs) n = (m ≡ n) ⊎ JudgedIn cs n
JudgedIn (c ∷ cs) n = JudgedIn cs n

-- how many formulas were entered
abbrev pub entered_in : List Call → ℕ
entered_in [] = 0
entered_in (enter text labels (Ok n) ∷ cs) = entered_in cs + 1
entered_in (c ∷ cs) = entered_in cs

-- and how many nodes they have
abbrev pub NodesIn : List Call → ℕ → Type 0
NodesIn [] k = k ≡ 0
NodesIn (enter text labels (Ok n) ∷ cs) k =
    (m : ℕ) × (t : Tree) × NodesIn cs m × Parses text t × (k ≡ m + size t)
NodesIn (c ∷ cs) k = NodesIn cs k
