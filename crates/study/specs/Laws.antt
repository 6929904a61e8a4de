-- THE LAW OVER RUNS: what each call answers after a list of calls, told from the list alone.
use Rattle.std.specs.Prelude.{◌≡◌, ◌↔◌, ℕ, ◌+◌, ◌<◌, ◌≤◌, ◌⊎◌, Bool, List, Ok, Err, Option, Result}
use Rattle.std.specs.Prelude.{IsTrue, IsSome, length, min}
use Rattle.base.specs.declared.refusal.Refusal.{Refusal}
use Rattle.base.specs.declared.refusal.Refusal.TheVariants.{Short, Range, Grammar, Nameless, Full}
use Rattle.base.specs.declared.refusal.Refusal.TheVariants.{Unheard}
use Rattle.meaning.specs.DecidingPaths.{DecidingPath, HandedOutOf, HasDecidingOf, HasToShow}
use Rattle.meaning.specs.Formula.{Formula, Holds}
use Rattle.meaning.specs.Laws.{RightMarks}
use Rattle.meaning.specs.Lts.{Lts}
use Rattle.meaning.specs.Verdicts as meant
use Rattle.formula.specs.Entering.{IsFormula, Unreadable, AllListed, Unlisted}
use Rattle.formula.specs.Formulas.{size}
use Rattle.formula.specs.Trees.{Tree}
use Rattle.formula.specs.Vocabulary.{by_labels}
use Rattle.search.specs.declared.found.Found.{Found}
use Rattle.search.specs.Finding.{Held, path_in}
use Rattle.study.specs.Runs.{Call, OnlyFormulaOf, FormulaOf, JudgedIn, entered_in, NodesIn}
use Rattle.study.specs.Study.{PathCall, said, tariff}
use Rattle.study.specs.declared.verdict.Verdict.{Verdict}

-- there is room for the formula of a tree: not eight formulas yet, and no 49th node
abbrev pub HasRoom : List Call → Tree → Type 0
HasRoom cs t =
    (entered_in cs < 8) × ((k : ℕ) × NodesIn cs k × (k + size t ≤ 48))

abbrev pub HasNoRoom : List Call → Tree → Type 0
HasNoRoom cs t =
    (entered_in cs ≡ 8) ⊎ ((k : ℕ) × NodesIn cs k × (48 < k + size t))

-- ENTERING a text by a label list: its number is how many formulas were entered before. 5 for what
-- is no formula, then 6 for a name that is not listed, then 7 for want of room.
abbrev pub EnterLaw : List Call → List ℕ → List (List ℕ) → Result ℕ Refusal → Type 0
EnterLaw cs text labels (Ok n) =
    (n ≡ entered_in cs)
    × ((t : Tree) × (d : IsFormula text t) × AllListed (by_labels labels) d.parses.tokens
    × HasRoom cs t)
EnterLaw cs text labels (Err Grammar) = Unreadable text
EnterLaw cs text labels (Err Nameless) =
    (t : Tree) × (d : IsFormula text t) × Unlisted (by_labels labels) d.parses.tokens
EnterLaw cs text labels (Err Full) =
    (t : Tree) × (d : IsFormula text t) × AllListed (by_labels labels) d.parses.tokens
    × HasNoRoom cs t
EnterLaw cs text labels (Err e) = ⊥

-- a verdict says of a formula whether it holds at the start, and at how many states it does
abbrev pub IsVerdictOn : Lts → Formula → Verdict → Type 0
IsVerdictOn M f v = (X : ℕ → Bool) × RightMarks M f X × (said v ≡ meant.verdict M X)

-- JUDGING formula n of calls over M, with a model of so many states: 1 for another number of
-- states, then 8 where there is no formula n.
abbrev pub JudgeLaw : Lts → ℕ → List Call → ℕ → Result Verdict Refusal → Type 0
JudgeLaw M states cs n (Ok v) =
    (states ≡ M.states) × ((f : Formula) × OnlyFormulaOf cs n f × IsVerdictOn M f v)
JudgeLaw M states cs n (Err Short) = ¬ (states ≡ M.states)
JudgeLaw M states cs n (Err Unheard) =
    (states ≡ M.states) × ((f : Formula) → ¬ FormulaOf cs n f)
JudgeLaw M states cs n (Err e) = ⊥

-- ASKING of formula n at state s: yes exactly where it holds. 1 for another number of states, then
-- 8 where formula n was not judged, then 3 for a state outside.
abbrev pub AskLaw : Lts → ℕ → List Call → ℕ → ℕ → Result Bool Refusal → Type 0
AskLaw M states cs n s (Ok b) =
    (states ≡ M.states) × JudgedIn cs n × (s < M.states)
    × ((f : Formula) × OnlyFormulaOf cs n f × (IsTrue b ↔ Holds M f s))
AskLaw M states cs n s (Err Short) = ¬ (states ≡ M.states)
AskLaw M states cs n s (Err Unheard) = (states ≡ M.states) × (¬ JudgedIn cs n)
AskLaw M states cs n s (Err Range) = (states ≡ M.states) × JudgedIn cs n × (M.states ≤ s)
AskLaw M states cs n s (Err e) = ⊥

-- how many entries the shortest of the lists has
abbrev pub shortest : ℕ → ℕ → ℕ → ℕ
shortest work stem cycle = min work (min stem cycle)

abbrev pub room : {W : Type 0} → Held W → ℕ
room h = shortest (length h.work) (length h.stem) (length h.cycle)

-- the answer of a path call, as the path that stands in the lists
abbrev pub path_answer : {W : Type 0} → Held W → Result Found Refusal
    → Result (Option DecidingPath) Refusal
path_answer after (Ok r) = Ok (path_in after.stem after.cycle r)
path_answer after (Err e) = Err e

-- What is handed out of a formula: a lightest decisive path if there is a decisive one, else a
-- lasting one; a path exactly where there is a deciding path; and there is one exactly where an E
-- formula holds or an A formula fails, leading NOTs set aside.
abbrev pub HandsOut : {W : Type 0} → PathCall W → Lts → Formula → Option DecidingPath → Type 0
HandsOut q M f p =
    HandedOutOf q.scale (tariff q) M f q.state p
    × (IsSome p ↔ HasDecidingOf M f q.state)
    × (HasDecidingOf M f q.state ↔ HasToShow M f q.state)

-- A PATH of formula n from state s, by the weight and tariffs of this call: 1 for another number of
-- states, then 8 where formula n was not judged, then 3 for a state outside, then 1 for a list with
-- fewer entries than states.
abbrev pub PathLaw : {W : Type 0} → PathCall W → Lts → ℕ → List Call → ℕ
    → Result (Option DecidingPath) Refusal → Type 0
PathLaw q M states cs room (Ok p) =
    (states ≡ M.states) × JudgedIn cs q.formula × (q.state < M.states) × (M.states ≤ room)
    × ((f : Formula) × OnlyFormulaOf cs q.formula f × HandsOut q M f p)
PathLaw q M states cs room (Err Short) =
    (¬ (states ≡ M.states))
    ⊎ ((states ≡ M.states) × JudgedIn cs q.formula × (q.state < M.states) × (room < M.states))
PathLaw q M states cs room (Err Unheard) = (states ≡ M.states) × (¬ JudgedIn cs q.formula)
PathLaw q M states cs room (Err Range) =
    (states ≡ M.states) × JudgedIn cs q.formula × (M.states ≤ q.state)
PathLaw q M states cs room (Err e) = ⊥

-- the model of a call is the one of the run, or has another number of states
abbrev pub Alike : Lts → Lts → Type 0
Alike M N = M.states ≡ N.states → M ≡ N
