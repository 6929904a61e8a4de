-- Orders to a study, and what each is answered.
use Rattle.std.specs.Prelude.{◌≡◌, ℕ, ◌≤◌, List, [], ◌∷◌, Ok, Err, Option, Result}
use Rattle.std.specs.Global.{Vec}
use Rattle.std.specs.Option.{option_map}
use Rattle.base.specs.declared.refusal.Refusal.{Refusal}
use Rattle.base.specs.declared.refusal.Refusal.TheVariants.{Short}
use Rattle.meaning.specs.DecidingPaths as deciding
use Rattle.meaning.specs.Lts.{Lts}
use Rattle.meaning.specs.Scales.{Scale}
use Rattle.shelf.specs.Sheets.{Sheets}
use Rattle.search.specs.Quests.{steps_of}
use Rattle.study.specs.Laws.{EnterLaw, JudgeLaw, AskLaw, PathLaw}
use Rattle.study.specs.Runs.{Call, enter, judge, ask, path, Run}
use Rattle.study.specs.Study.{path_call}
use Rattle.study.specs.declared.carry_out_error.CarryOutError.{CarryOutError}
use Rattle.study.specs.declared.carry_out_error.CarryOutError.TheVariants.{Refused, NoMemory}
use Rattle.study.specs.declared.order.Answer.{Answer}
use Rattle.study.specs.declared.order.Answer.TheVariants as answer
use Rattle.study.specs.declared.order.DecidingPath.{DecidingPath}
use Rattle.study.specs.declared.order.DecidingPath.TheVariants.{Ended, Looping}
use Rattle.study.specs.declared.order.Order.{Order}
use Rattle.study.specs.declared.order.Order.TheVariants as order
use Rattle.study.specs.declared.study.Study.{Study}

-- the path of a log, as the meaning has it
abbrev pub path_of : DecidingPath → deciding.DecidingPath
path_of (Ended v) = deciding.ended (steps_of v.items)
path_of (Looping v w) = deciding.looping (steps_of v.items) (steps_of w.items)

abbrev pub path_said : Result (Option DecidingPath) Refusal
    → Result (Option deciding.DecidingPath) Refusal
path_said (Ok p) = Ok (option_map path_of p)
path_said (Err e) = Err e

-- the calls, with that of an order
abbrev pub with_call : Order → Answer → List Call → List Call
with_call (order.Enter text labels) (answer.Entered r) cs = enter text.now labels.now r ∷ cs
with_call (order.Judge n) (answer.Judged r) cs = judge n r ∷ cs
with_call (order.Ask n s) (answer.Asked r) cs = ask n s r ∷ cs
with_call (order.Path n s tariffs) (answer.Path r) cs = path n s tariffs.now (path_said r) ∷ cs
with_call o a cs = cs

abbrev pub calls_after : List Call → List Order → List Answer → List Call
calls_after cs (o ∷ os) (a ∷ more) = calls_after (with_call o a cs) os more
calls_after cs os more = cs

-- by a weight, with lists of which the shortest has so many entries, over a model
module _ {W : Type 0} (scale : Scale W) (room : ℕ) (M : Lts) where
  -- An answer to an order is right after the calls before it.
  abbrev pub IsRight : List Call → Order → Answer → Type 0
  IsRight cs (order.Enter text labels) (answer.Entered r) = EnterLaw cs text.now labels.now r
  IsRight cs (order.Judge n) (answer.Judged r) = JudgeLaw M M.states cs n r
  IsRight cs (order.Ask n s) (answer.Asked r) = AskLaw M M.states cs n s r
  IsRight cs (order.Path n s tariffs) (answer.Path r) =
      PathLaw (path_call scale tariffs.now n s) M M.states cs room (path_said r)
  IsRight cs o a = ⊥

  -- Each order has an answer, which is right after the calls before it.
  abbrev pub AllRight : List Call → List Order → List Answer → Type 0
  AllRight cs [] [] = Unit {0}
  AllRight cs (o ∷ os) (a ∷ more) = IsRight cs o a × AllRight (with_call o a cs) os more
  AllRight cs os more = ⊥

  -- Orders that are carried out lead on from every run.
  pub record GoesOn (st : Study) (sh : Sheets) (os : List Order) (answers : List Answer)
      (st' : Study) (sh' : Sheets) : Type 0 where
    pub right : (cs : List Call) → Run M cs st sh → AllRight cs os answers
    pub runs : (cs : List Call) → Run M cs st sh → Run M (calls_after cs os answers) st' sh'

  -- CARRYING OUT orders on a fresh study: every answer is right after the calls before it. Else 1
  -- where the shelf covers another number of states than the model has, or no memory for the log.
  abbrev pub CarriedOut : ℕ → List Order → Result (Vec Answer) CarryOutError → Type 0
  CarriedOut covers os (Ok answers) = (covers ≡ M.states) × AllRight [] os answers.items
  CarriedOut covers os (Err (Refused e)) = (¬ (covers ≡ M.states)) × (e ≡ Short)
  CarriedOut covers os (Err NoMemory) = covers ≡ M.states

-- No sheet from 48 on is altered.
pub record Spared (before after : Sheets) : Type 0 where
  pub covers : after.covers ≡ before.covers
  pub same : (k s : ℕ) → 48 ≤ k → after.on k s ≡ before.on k s
