-- What a study holds, and what each of its calls promises.
use Rattle.std.specs.Prelude.{◌≡◌, ℕ, ◌<◌, ◌≤◌, ◌⊎◌, Bool, true, false, List, [], replicate, length}
use Rattle.std.specs.Prelude.{Ok, Err, Result, IsTrue, slice_set, slice_index_or}
use Rattle.base.specs.declared.refusal.Refusal.{Refusal}
use Rattle.base.specs.declared.refusal.Refusal.TheVariants.{Short, Range, Unheard}
use Rattle.meaning.specs.Lts.{Lts}
use Rattle.meaning.specs.Scales.{Scale}
use Rattle.shelf.specs.Sheets.{Sheets}
use Rattle.meaning.specs.Verdicts as meant
use Rattle.formula.specs.declared.nodes.Nodes.{Nodes}
use Rattle.formula.specs.declared.nodes.Span.{Span}
use Rattle.formula.specs.Entering.{Added, Refused}
use Rattle.formula.specs.Nodes.{shapes, roots, root}
use Rattle.formula.specs.Vocabulary.{by_labels}
use Rattle.marking.specs.Marking.{AllMarked}
use Rattle.search.specs.declared.found.Found.{Found}
use Rattle.search.specs.Finding.{Held}
use Rattle.paths.specs.Asking.{Asked, AnswerTo}
use Rattle.study.specs.declared.record.Record.{Record}
use Rattle.study.specs.declared.study.Study.{Study}
use Rattle.study.specs.declared.verdict.Verdict.{Verdict}

-- the number of states that a study was opened over
abbrev pub states : Study → ℕ
states st = st.states

-- the table of its formulas
abbrev pub nodes : Study → Nodes
nodes st = st.nodes

-- and the records, each at the number of its formula
abbrev pub records : Study → List Record
records st = st.records

abbrev pub marked_as : Bool → Record
marked_as b = record { judged = b }

-- how many formulas it has
abbrev pub formulas : Study → ℕ
formulas st = length (roots (nodes st))

-- there is a formula n, and it is judged
abbrev pub IsJudged : Study → ℕ → Type 0
IsJudged st n =
    (n < formulas st) × IsTrue (slice_index_or (records st) n (marked_as false)).judged

-- a model and a shelf have as many states as those that the study was opened over
abbrev pub Fits : Lts → Sheets → Study → Type 0
Fits M sh st = (M.states ≡ states st) × (sh.covers ≡ states st)

-- OPENING: no formula yet; 1 where the shelf covers another number of states than the model has.
abbrev pub Opens : Lts → Sheets → Result Study Refusal → Type 0
Opens M sh (Ok st) =
    (sh.covers ≡ M.states) × (states st ≡ M.states) × (roots (nodes st) ≡ [])
    × (shapes (nodes st) ≡ []) × (records st ≡ replicate 8 (marked_as false))
Opens M sh (Err Short) = ¬ (sh.covers ≡ M.states)
Opens M sh (Err e) = ⊥

-- ENTERING: the table has the formula of the text by the labels, not judged; or 5, 6, 7.
abbrev pub Enters : List ℕ → List (List ℕ) → Study → Study → Result ℕ Refusal → Type 0
Enters text labels before after (Ok n) =
    Added text (by_labels labels) (nodes before) (nodes after) n
    × (records after ≡ slice_set (records before) n (marked_as false))
    × (states after ≡ states before)
Enters text labels before after (Err e) =
    Refused text (by_labels labels) (nodes before) e × (after ≡ before)

-- The nodes of formula n are marked, or it is refused with 1, then 8, and the shelf as before.
abbrev pub MarksFormula : {S : Type 0} → (S → Sheets) → Lts → ℕ → Study → S → S
    → Result Span Refusal → Type 0
MarksFormula sheets M n st shelf shelf' (Ok s) =
    Fits M (sheets shelf) st × AllMarked M (nodes st) n (sheets shelf) (sheets shelf')
    × (s.root ≡ root (nodes st) n)
MarksFormula sheets M n st shelf shelf' (Err Short) =
    (¬ Fits M (sheets shelf) st) × (shelf' ≡ shelf)
MarksFormula sheets M n st shelf shelf' (Err Unheard) =
    Fits M (sheets shelf) st × (formulas st ≤ n) × (shelf' ≡ shelf)
MarksFormula sheets M n st shelf shelf' (Err e) = ⊥

-- a verdict, as the meaning has it
abbrev pub said : Verdict → meant.Verdict
said v = record { holds = v.holds; count = v.count; total = v.total; share = v.share }

-- Formula n alone is judged from now on. The sheets of its nodes are marked, and no others; the
-- verdict is what the marks of its root say.
pub record NowJudged (M : Lts) (n : ℕ) (before after : Study) (sh sh' : Sheets) (v : Verdict)
    : Type 0 where
  pub fits : Fits M sh before
  pub marked : AllMarked M (nodes before) n sh sh'
  pub spared : (k s : ℕ) → 48 ≤ k → sh'.on k s ≡ sh.on k s
  pub verdict_is : said v ≡ meant.verdict M (sh'.on (root (nodes before) n))
  pub nodes_are : nodes after ≡ nodes before
  pub records_are : records after ≡ slice_set (records before) n (marked_as true)
  pub states_are : states after ≡ states before

-- JUDGING: 1, then 8 where there is no such formula.
abbrev pub Judges : {S : Type 0} → (S → Sheets) → Lts → ℕ → Study → Study → S → S
    → Result Verdict Refusal → Type 0
Judges sheets M n before after shelf shelf' (Ok v) =
    NowJudged M n before after (sheets shelf) (sheets shelf') v
Judges sheets M n before after shelf shelf' (Err Short) =
    (¬ Fits M (sheets shelf) before) × (after ≡ before) × (shelf' ≡ shelf)
Judges sheets M n before after shelf shelf' (Err Unheard) =
    Fits M (sheets shelf) before × (formulas before ≤ n) × (after ≡ before) × (shelf' ≡ shelf)
Judges sheets M n before after shelf shelf' (Err e) = ⊥

-- ASKING: the mark of the formula's root; or 1, then 8 where it is not judged, then 3.
abbrev pub Asks : Lts → Sheets → Study → ℕ → ℕ → Result Bool Refusal → Type 0
Asks M sh st n s (Ok b) =
    Fits M sh st × IsJudged st n × (s < states st) × (b ≡ sh.on (root (nodes st) n) s)
Asks M sh st n s (Err Short) = ¬ Fits M sh st
Asks M sh st n s (Err Unheard) = Fits M sh st × (¬ IsJudged st n)
Asks M sh st n s (Err Range) = Fits M sh st × IsJudged st n × (states st ≤ s)
Asks M sh st n s (Err e) = ⊥

-- A call for a deciding path: of which formula, from which state, by which weight and tariffs.
pub record PathCall (W : Type 0) : Type 0 where
  pub scale : Scale W
  pub tariffs : List ℕ
  pub formula : ℕ
  pub state : ℕ

abbrev pub path_call : {W : Type 0} → Scale W → List ℕ → ℕ → ℕ → PathCall W
path_call scale tariffs n s = record { scale = scale; tariffs = tariffs; formula = n; state = s }

-- the tariff of an action
abbrev pub tariff : {W : Type 0} → PathCall W → ℕ → ℕ
tariff q a = slice_index_or q.tariffs a 0

-- the call as a question of the table and the sheets
abbrev pub asked : {W : Type 0} → PathCall W → Lts → Sheets → Study → Asked W
asked q M sh st = record {
  scale = q.scale;
  tariff = tariff q;
  lts = M;
  sheets = sh;
  nodes = nodes st;
  formula = q.formula;
  state = q.state;
}

-- A PATH: what the table and the sheets answer to the question, lists as they are then; or 1, then
-- 8 where the formula is not judged, and then the lists are as before.
abbrev pub FindsPath : {W : Type 0} → PathCall W → Lts → Sheets → Study → Held W → Held W
    → Result Found Refusal → Type 0
FindsPath q M sh st before after (Ok r) =
    Fits M sh st × IsJudged st q.formula × AnswerTo (asked q M sh st) before after (Ok r)
FindsPath q M sh st before after (Err Short) =
    ((¬ Fits M sh st) × (after ≡ before))
    ⊎ (Fits M sh st × IsJudged st q.formula
    × AnswerTo (asked q M sh st) before after (Err Short))
FindsPath q M sh st before after (Err Unheard) =
    Fits M sh st × (¬ IsJudged st q.formula) × (after ≡ before)
FindsPath q M sh st before after (Err Range) =
    Fits M sh st × IsJudged st q.formula × AnswerTo (asked q M sh st) before after (Err Range)
FindsPath q M sh st before after (Err e) = ⊥
