-- Orders that are carried out, one more at a time.
use Rattle.std.proofs.Common.{◌≡◌, ℕ, ◌+◌, ◌<◌, ◌≤◌, Bool, Ok, Err, List, [], ◌∷◌, ◌++◌, length, take, slice_index_or, Option, Result, sym, refl, ap, ◌∙◌, subst}
use Rattle.std.proofs.lemmas.List.{take_more, take_all}
use Rattle.std.specs.Borrow.{Bor}
use Rattle.base.specs.declared.refusal.Refusal.{Refusal}
use Rattle.base.specs.declared.refusal.Refusal.TheVariants.{Short, Unheard}
use Rattle.meaning.specs.DecidingPaths as deciding
use Rattle.meaning.specs.Lts.{Lts}
use Rattle.meaning.specs.Scales.{Scale}
use Rattle.shelf.specs.Sheets.{Sheets}
use Rattle.study.specs.Laws.{Alike, EnterLaw, JudgeLaw, AskLaw, PathLaw}
use Rattle.study.specs.Orders.{path_said, with_call, calls_after, IsRight, AllRight, GoesOn, Spared}
use Rattle.study.specs.Runs.{Call, enter, judge, ask, path, Run}
use Rattle.study.specs.Study.{path_call, Judges}
use Rattle.study.specs.declared.order.Answer.{Answer}
use Rattle.study.specs.declared.order.Answer.TheVariants as answer
use Rattle.study.specs.declared.order.DecidingPath.{DecidingPath}
use Rattle.study.specs.declared.order.Order.{Order}
use Rattle.study.specs.declared.order.Order.TheVariants as order
use Rattle.study.specs.declared.study.Study.{Study}
use Rattle.study.specs.declared.verdict.Verdict.{Verdict}

pub spared_on : {a b c : Sheets} → Spared a b → Spared b c → Spared a c
spared_on p q = record { covers = q.covers ∙ p.covers; same = λ k s l. q.same k s l ∙ p.same k s l }

pub spared_none : (a : Sheets) → Spared a a
spared_none a = record { covers = refl; same = λ k s l. refl }

-- judging alters no sheet from 48 on
pub spared_judge : {S : Type 0} (sheets : S → Sheets) (M : Lts) (n : ℕ) (st st' : Study) (shelf shelf' : S) (r : Result Verdict Refusal)
    → Judges sheets M n st st' shelf shelf' r → Spared (sheets shelf) (sheets shelf')
spared_judge sheets M n st st' shelf shelf' (Ok v) e = record { covers = e.marked.covers; same = e.spared }
spared_judge sheets M n st st' shelf shelf' (Err Short) e = subst (λ (x : Sheets). Spared (sheets shelf) x) (sym (ap sheets e.2)) (spared_none (sheets shelf))
spared_judge sheets M n st st' shelf shelf' (Err Unheard) e = subst (λ (x : Sheets). Spared (sheets shelf) x) (sym (ap sheets e.3)) (spared_none (sheets shelf))
spared_judge sheets M n st st' shelf shelf' (Err x) e = absurd e

module _ {W : Type 0} (scale : Scale W) (room : ℕ) (M : Lts) where
  abbrev Goes : Study → Sheets → List Order → List Answer → Study → Sheets → Type 0
  Goes = GoesOn scale room M

  abbrev All : List Call → List Order → List Answer → Type 0
  All = AllRight scale room M

  pub goes_enter : (st st' : Study) (sh : Sheets) (o : Order) (text : Bor (List ℕ)) (labels : Bor (List (List ℕ))) (r : Result ℕ Refusal)
      → o ≡ order.Enter text labels → ((N : Lts) (cs : List Call) (there : Sheets) → Run N cs st there → EnterLaw cs text.now labels.now r)
      → ((N : Lts) (cs : List Call) (there : Sheets) → Run N cs st there → Run N (enter text.now labels.now r ∷ cs) st' there)
      → Goes st sh (o ∷ []) (answer.Entered r ∷ []) st' sh
  goes_enter st st' sh o text labels r e law run =
      subst (λ (x : Order). Goes st sh (x ∷ []) (answer.Entered r ∷ []) st' sh) (sym e)
      (record { right = λ cs h. (law M cs sh h, tt); runs = λ cs h. run M cs sh h })

  pub goes_judge : (st st' : Study) (sh sh' : Sheets) (o : Order) (n : ℕ) (r : Result Verdict Refusal) → o ≡ order.Judge n
      → ((N : Lts) (cs : List Call) → Alike M N → Run N cs st sh → JudgeLaw N M.states cs n r)
      → ((cs : List Call) → Run M cs st sh → Run M (judge n r ∷ cs) st' sh') → Goes st sh (o ∷ []) (answer.Judged r ∷ []) st' sh'
  goes_judge st st' sh sh' o n r e law run =
      subst (λ (x : Order). Goes st sh (x ∷ []) (answer.Judged r ∷ []) st' sh') (sym e)
      (record { right = λ cs h. (law M cs (λ _. refl) h, tt); runs = run })

  pub goes_ask : (st : Study) (sh : Sheets) (o : Order) (n s : ℕ) (r : Result Bool Refusal) → o ≡ order.Ask n s
      → ((N : Lts) (cs : List Call) → Run N cs st sh → AskLaw N M.states cs n s r)
      → ((cs : List Call) → Run M cs st sh → Run M (ask n s r ∷ cs) st sh) → Goes st sh (o ∷ []) (answer.Asked r ∷ []) st sh
  goes_ask st sh o n s r e law run =
      subst (λ (x : Order). Goes st sh (x ∷ []) (answer.Asked r ∷ []) st sh) (sym e) (record { right = λ cs h. (law M cs h, tt); runs = run })

  -- a path, with its steps in the log
  pub goes_path : (st : Study) (sh : Sheets) (o : Order) (n s : ℕ) (tariffs : Bor (List ℕ)) (p : Result (Option DecidingPath) Refusal)
      (r : Result (Option deciding.DecidingPath) Refusal) → o ≡ order.Path n s tariffs → path_said p ≡ r
      → ((cs : List Call) → Run M cs st sh → PathLaw (path_call scale tariffs.now n s) M M.states cs room r)
      → ((cs : List Call) → Run M cs st sh → Run M (path n s tariffs.now r ∷ cs) st sh) → Goes st sh (o ∷ []) (answer.Path p ∷ []) st sh
  goes_path st sh o n s tariffs p r e f law run =
      subst (λ (x : Order). Goes st sh (x ∷ []) (answer.Path p ∷ []) st sh) (sym e)
      (record {
        right = λ cs h. (subst (PathLaw (path_call scale tariffs.now n s) M M.states cs room) (sym f) (law cs h), tt);
        runs = λ cs h. subst (λ (x : Result (Option deciding.DecidingPath) Refusal). Run M (path n s tariffs.now x ∷ cs) st sh) (sym f) (run cs h);
      })

  pub goes_none : (st : Study) (sh : Sheets) → Goes st sh [] [] st sh
  goes_none st sh = record { right = λ cs run. tt; runs = λ cs run. run }

  right_more : (cs : List Call) (os : List Order) (bs : List Answer) (o : Order) (b : Answer) → All cs os bs → IsRight scale room M (calls_after cs os bs) o b
      → All cs (os ++ o ∷ []) (bs ++ b ∷ [])
  right_more cs [] [] o b p q = (q, tt)
  right_more cs (x ∷ os) (y ∷ bs) o b p q = (p.0, right_more (with_call x y cs) os bs o b p.1 q)
  right_more cs [] (y ∷ bs) o b p q = absurd p
  right_more cs (x ∷ os) [] o b p q = absurd p

  after_more : (cs : List Call) (os : List Order) (bs : List Answer) (o : Order) (b : Answer) → All cs os bs
      → calls_after cs (os ++ o ∷ []) (bs ++ b ∷ []) ≡ with_call o b (calls_after cs os bs)
  after_more cs [] [] o b p = refl
  after_more cs (x ∷ os) (y ∷ bs) o b p = after_more (with_call x y cs) os bs o b p.1
  after_more cs [] (y ∷ bs) o b p = absurd p
  after_more cs (x ∷ os) [] o b p = absurd p

  goes_more : (st st₁ st₂ : Study) (sh sh₁ sh₂ : Sheets) (os : List Order) (bs : List Answer) (o : Order) (b : Answer) → Goes st sh os bs st₁ sh₁
      → Goes st₁ sh₁ (o ∷ []) (b ∷ []) st₂ sh₂ → Goes st sh (os ++ o ∷ []) (bs ++ b ∷ []) st₂ sh₂
  goes_more st st₁ st₂ sh sh₁ sh₂ os bs o b p q = record {
    right = λ cs run. right_more cs os bs o b (p.right cs run) (q.right (calls_after cs os bs) (p.runs cs run)).0;
    runs = λ cs run. subst (λ (x : List Call). Run M x st₂ sh₂) (sym (after_more cs os bs o b (p.right cs run))) (q.runs (calls_after cs os bs) (p.runs cs run));
  }

  -- the orders up to one more
  pub goes_next : (st st₁ st₂ : Study) (sh sh₁ sh₂ : Sheets) (os : List Order) (i : ℕ) (o : Order) (bs : List Answer) (b : Answer) → i < length os
      → o ≡ slice_index_or os i o → Goes st sh (take i os) bs st₁ sh₁ → Goes st₁ sh₁ (o ∷ []) (b ∷ []) st₂ sh₂
      → Goes st sh (take (i + 1) os) (bs ++ b ∷ []) st₂ sh₂
  goes_next st st₁ st₂ sh sh₁ sh₂ os i o bs b l e p q =
      subst (λ (x : List Order). Goes st sh x (bs ++ b ∷ []) st₂ sh₂)
      (sym (take_more os i o l ∙ ap (λ (x : Order). take i os ++ x ∷ []) (sym e)))
      (goes_more st st₁ st₂ sh sh₁ sh₂ (take i os) bs o b p q)

  -- and all of them
  pub goes_whole : (st st' : Study) (sh sh' : Sheets) (os : List Order) (i : ℕ) (bs : List Answer) → length os ≤ i → Goes st sh (take i os) bs st' sh'
      → Goes st sh os bs st' sh'
  goes_whole st st' sh sh' os i bs l k = subst (λ (x : List Order). Goes st sh x bs st' sh') (take_all i os l) k

  pub by_room : (r : ℕ) → room ≡ r → (st st' : Study) (sh sh' : Sheets) (os : List Order) (bs : List Answer) → Goes st sh os bs st' sh'
      → GoesOn scale r M st sh os bs st' sh'
  by_room r e st st' sh sh' os bs k = subst (λ (x : ℕ). GoesOn scale x M st sh os bs st' sh') e k
