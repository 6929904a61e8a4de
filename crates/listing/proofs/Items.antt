-- From the law of a study to what is said of a line.
use Rattle.std.proofs.Common.{◌≡◌, ℕ, suc, ◌+◌, ◌<◌, ◌≤◌, List, [], ◌∷◌, ◌++◌, append_assoc, Ok, Err, OnOk, Option, Result, inl, inr, sym, refl, ap, ◌∙◌, subst, ⊎_elim, arith}
use Rattle.base.specs.declared.refusal.Refusal.{Refusal}
use Rattle.base.specs.declared.refusal.Refusal.TheVariants.{Short, Garbled, Range, Crowded, Grammar, Nameless, Full, Unheard, Silent, TooBig}
use Rattle.meaning.specs.DecidingPaths.{DecidingPath, HandedOutOf}
use Rattle.meaning.specs.Formula.{Formula}
use Rattle.meaning.specs.Lts.{Lts}
use Rattle.meaning.specs.Scales.{Scale}
use Rattle.shelf.specs.Sheets.{Sheets}
use Rattle.formula.specs.Formulas.{by_names, size}
use Rattle.formula.specs.Grammar.{Parses}
use Rattle.formula.specs.Trees.{Tree}
use Rattle.formula.specs.Vocabulary.{by_labels}
use Rattle.formula.proofs.Readings as readings
use Rattle.study.specs.Laws.{EnterLaw, JudgeLaw, PathLaw}
use Rattle.study.specs.Runs.{Call, Run, enter, judge, path, FormulaOf, JudgedIn, entered_in, NodesIn}
use Rattle.study.specs.Study.{path_call, said}
use Rattle.study.specs.declared.study.Study.{Study}
use Rattle.study.specs.declared.verdict.Verdict.{Verdict}
use Rattle.listing.specs.Airtimes.{by_airtime, tariffs, one_each}
use Rattle.listing.specs.Listing.{Item, refusal, report, item_text, VerdictOn, LineRefused, no_formula, nameless, full, LineRead, Judged, by_meaning, Answered}
use Rattle.listing.specs.Listing as listing
use Rattle.listing.specs.Steps.{Stands, Traced, Reported, LineDone}
use Rattle.listing.specs.Texts.{verdict_text, path_text}
use Rattle.listing.proofs.Ticks.{ToldBy, handed_out_of}

pub on_ok : {A E : Type 0} (P Q : Type 0) (r : Result A E) → (P → Q) → OnOk r P → OnOk r Q
on_ok P Q (Ok x) f h = f h
on_ok P Q (Err e) f h = tt

module _ (M : Lts) (names : List (List ℕ)) where
  module _ {V : Type 0} (a : Scale V) (f : V → ℕ) (told : ToldBy a by_airtime f) (cs : List Call) (n : ℕ) (st : Study) (sh : Sheets) (judged : JudgedIn cs n) where
    from_start : (room : ℕ) (p : Option DecidingPath) (before after : List ℕ)
        → PathLaw (path_call a tariffs n M.start) M M.states cs room (Ok p)
        → Run M (path n M.start tariffs (Ok p) ∷ cs) st sh
        → after ≡ before ++ path_text names p → Traced M names cs n st sh before after
    from_start room p before after law run e = record {
      formula = law.4.0;
      only = law.4.1;
      path = p;
      handed_out = handed_out_of a by_airtime f told one_each M law.4.0 M.start p law.4.2.0;
      written = e;
      answer = Ok p;
      run = run;
    }

    pub traced : (room s : ℕ) (p : Option DecidingPath) (before after : List ℕ) → s ≡ M.start
        → PathLaw (path_call a tariffs n s) M M.states cs room (Ok p)
        → Run M (path n s tariffs (Ok p) ∷ cs) st sh
        → after ≡ before ++ path_text names p → Traced M names cs n st sh before after
    traced room s p before after is law run e =
        from_start room p before after
        (subst (λ (z : ℕ). PathLaw (path_call a tariffs n z) M M.states cs room (Ok p)) is law)
        (subst (λ (z : ℕ). Run M (path n z tariffs (Ok p) ∷ cs) st sh) is run) e

    -- the path is not refused
    not_refused : (room : ℕ) (e : Refusal) → M.states ≤ room → PathLaw (path_call a tariffs n M.start) M M.states cs room (Err e) → ⊥
    not_refused room Short l (inl h) = h refl
    not_refused room Short l (inr h) = absurd (omega (arith, l, h.3))
    not_refused room Unheard l h = h.1 judged
    not_refused room Range l h = absurd (omega (arith, M.lawful.begins, h.2))
    not_refused room Garbled l h = h
    not_refused room Crowded l h = h
    not_refused room Grammar l h = h
    not_refused room Nameless l h = h
    not_refused room Full l h = h
    not_refused room Silent l h = h
    not_refused room TooBig l h = h

    pub not_refused_at : (room s : ℕ) (e : Refusal) → s ≡ M.start → M.states ≤ room → PathLaw (path_call a tariffs n s) M M.states cs room (Err e) → ⊥
    not_refused_at room s e is l law = not_refused room e l (subst (λ (z : ℕ). PathLaw (path_call a tariffs n z) M M.states cs room (Err e)) is law)

  module _ (cs : List Call) (n : ℕ) where
    -- judging is not refused
    pub judge_heard : (e : Refusal) (f : Formula) → FormulaOf cs n f → JudgeLaw M M.states cs n (Err e) → ⊥
    judge_heard Short f k h = h refl
    judge_heard Unheard f k h = h.1 f k
    judge_heard Range f k h = h
    judge_heard Garbled f k h = h
    judge_heard Crowded f k h = h
    judge_heard Grammar f k h = h
    judge_heard Nameless f k h = h
    judge_heard Full f k h = h
    judge_heard Silent f k h = h
    judge_heard TooBig f k h = h

    -- a verdict and a path of one formula
    pub reported : (st : Study) (sh : Sheets) (v : Verdict) (before between after : List ℕ)
        → JudgeLaw M M.states cs n (Ok v) → between ≡ before ++ verdict_text n (said v)
        → Traced M names (judge n (Ok v) ∷ cs) n st sh between after
        → Reported M names cs n st sh before after
    reported st sh v before between after law e t =
        let f = law.1.0 in
        let same : t.formula ≡ f = law.1.1.1 t.formula t.only.0 in
        record {
          formula = f;
          only = law.1.1;
          item = report n (said v) t.path;
          judged = by_meaning law.1.2 (subst (λ (x : Formula). HandedOutOf by_airtime one_each M x M.start t.path) same t.handed_out);
          written = t.written ∙ ap (λ x. x ++ path_text names t.path) e ∙ append_assoc before (verdict_text n (said v)) (path_text names t.path);
          verdict = v;
          answer = t.answer;
          run = t.run;
        }

-- how many nodes calls have is one number
tree_one : (text : List ℕ) (t u : Tree) → Parses text t → Parses text u → t ≡ u
tree_one = readings.one_reading

pub nodes_one : (cs : List Call) (k j : ℕ) → NodesIn cs k → NodesIn cs j → k ≡ j
nodes_one [] k j a b = a ∙ sym b
nodes_one (enter text labels (Ok n) ∷ cs) k j a b =
    let m : a.0 ≡ b.0 = nodes_one cs a.0 b.0 a.2 b.2 in
    let t : a.1 ≡ b.1 = tree_one text a.1 b.1 a.3 b.3 in
    a.4 ∙ ap (λ x. x + size a.1) m ∙ ap (λ x. b.0 + size x) t ∙ sym b.4
nodes_one (enter text labels (Err e) ∷ cs) k j a b = nodes_one cs k j a b
nodes_one (judge n r ∷ cs) k j a b = nodes_one cs k j a b
nodes_one (Call.ask n s r ∷ cs) k j a b = nodes_one cs k j a b
nodes_one (path n s w r ∷ cs) k j a b = nodes_one cs k j a b

module _ (M : Lts) (names : List (List ℕ)) (st : Study) (sh : Sheets) (line : List ℕ) (formulas nodes : ℕ) (stands : Stands M st sh formulas nodes) where
  abbrev calls : List Call
  calls = stands.calls

  abbrev same : formulas ≡ entered_in calls
  same = sym stands.formulas_are

  refused_for : (e : Refusal) → EnterLaw calls line names (Err e) → LineRefused names formulas nodes line e
  refused_for Grammar h = no_formula h
  refused_for Nameless h = nameless h.1 h.2
  refused_for Full h =
      full h.1 h.2 (⊎_elim (λ e. inl (omega (arith, e, stands.formulas_are)))
      (λ k. inr (subst (λ (m : ℕ). 48 < m + size h.0) (nodes_one calls k.0 nodes k.1 stands.nodes_are) k.2)) h.3)
  refused_for Short h = absurd h
  refused_for Garbled h = absurd h
  refused_for Range h = absurd h
  refused_for Crowded h = absurd h
  refused_for Unheard h = absurd h
  refused_for Silent h = absurd h
  refused_for TooBig h = absurd h

  -- a line that is refused
  pub line_refused : (st' : Study) (e : Refusal) (before after : List ℕ) → EnterLaw calls line names (Err e)
      → Run M (enter line names (Err e) ∷ calls) st' sh → after ≡ before ++ item_text names (refusal e)
      → LineDone M names formulas nodes line st' sh before after
  line_refused st' e before after law run k = record {
    formulas_now = formulas;
    nodes_now = nodes;
    item = refusal e;
    answered = listing.Answered.refused (refused_for e law);
    written = k;
    stands = record { calls = enter line names (Err e) ∷ calls; run = run; formulas_are = stands.formulas_are; nodes_are = stands.nodes_are };
  }

  -- and one that is a formula
  module _ (n : ℕ) (law : EnterLaw calls line names (Ok n)) where
    abbrev tree : Tree
    tree = law.1.0

    abbrev meant : Formula
    meant = by_names (by_labels names) tree

    pub entered_formula : FormulaOf (enter line names (Ok n) ∷ calls) n meant
    entered_formula = inl (refl, (tree, law.1.1.parses, refl))

    fits : nodes + size tree ≤ 48
    fits = let r = law.1.3.1 in subst (λ (m : ℕ). m + size tree ≤ 48) (nodes_one calls r.0 nodes r.1 stands.nodes_are) r.2

    pub line_done : (st' : Study) (sh' : Sheets) (before after : List ℕ)
        → Reported M names (enter line names (Ok n) ∷ calls) n st' sh' before after
        → LineDone M names formulas nodes line st' sh' before after
    line_done st' sh' before after r =
        let f : meant ≡ r.formula = r.only.1 meant entered_formula in
        let i : n ≡ formulas = law.0 ∙ stands.formulas_are in
        record {
          formulas_now = suc formulas;
          nodes_now = nodes + size tree;
          item = r.item;
          answered = listing.judged
              (record { is = law.1.1; listed = law.1.2; few = subst (λ (m : ℕ). m < 8) stands.formulas_are law.1.3.0; small = fits })
              (subst (λ (m : ℕ). Judged M meant m r.item) i (subst (λ (x : Formula). Judged M x n r.item) (sym f) r.judged));
          written = r.written;
          stands = record {
            calls = path n M.start tariffs r.answer ∷ judge n (Ok r.verdict) ∷ enter line names (Ok n) ∷ calls;
            run = r.run;
            formulas_are = omega (arith, stands.formulas_are);
            nodes_are = (nodes, tree, stands.nodes_are, law.1.1.parses, refl);
          };
        }
