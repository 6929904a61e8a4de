-- What each call answers after a run.
use Rattle.std.proofs.Common.{◌≡◌, ◌↔◌, ℕ, ◌+◌, ◌<◌, Bool, List, length, Some, None, Ok, Err, is_some, IsSome, IsTrue, Option, Result, sym, refl, ap, ◌∙◌, subst, inl, inr, arith}
use Rattle.std.proofs.lemmas.Bool.{false≢true}
use Rattle.std.proofs.lemmas.List.{length-append, length_push}
use Rattle.base.specs.declared.refusal.Refusal.{Refusal}
use Rattle.base.specs.declared.refusal.Refusal.TheVariants.{Short, Range, Grammar, Nameless, Full, Unheard}
use Rattle.meaning.specs.DecidingPaths.{DecidingPath, ended, looping, Chosen, LightestOne, HandedOut, HandedOutOf, HasDecidingOf}
use Rattle.meaning.specs.Deciding.{OnlyFirst, Goal, Lasting, Lasts, HasDeciding}
use Rattle.meaning.specs.Formula.{Quantifier, E, A, Temporal, U, W, Formula, TRUE, FALSE, NOT, AND, OR, path, Holds, Part}
use Rattle.meaning.specs.Laws.{RightMarks}
use Rattle.meaning.specs.Lts.{Lts}
use Rattle.meaning.specs.Paths.{Kind}
use Rattle.meaning.specs.Scales.{Scale}
use Rattle.shelf.specs.Sheets.{Sheets}
use Rattle.meaning.specs.Verdicts as meant
use Rattle.formula.specs.declared.nodes.Nodes.{Nodes}
use Rattle.formula.specs.Entering.{NoRoom, eight_formulas, too_many_nodes}
use Rattle.formula.specs.Nodes.{shapes, roots, root, formula_of, OfFormula}
use Rattle.formula.specs.Trees.{Tree}
use Rattle.formula.proofs.Entries.{few_shapes, few_roots}
use Rattle.search.specs.declared.found.Found.{Found}
use Rattle.search.specs.Finding.{Held, TooShort, path_in}
use Rattle.search.proofs.Formulas.{where_shown}
use Rattle.paths.specs.Asking.{RightSheets, PathFound}
use Rattle.study.specs.Laws.{Alike, EnterLaw, HasNoRoom, JudgeLaw, AskLaw, PathLaw, path_answer, room}
use Rattle.study.specs.Runs.{Call, Run, OnlyFormulaOf, no_weight, PathTells}
use Rattle.study.specs.Study.{tariff, PathCall, asked, said, nodes, formulas, Enters, Judges, Asks, FindsPath}
use Rattle.study.specs.declared.study.Study.{Study}
use Rattle.study.specs.declared.verdict.Verdict.{Verdict}
use Rattle.study.proofs.Runs.{Kept, kept}

pub enter_law : (M : Lts) (cs : List Call) (st st' : Study) (sh : Sheets) (text : List ℕ) (labels : List (List ℕ)) (r : Result ℕ Refusal) → Run M cs st sh
    → Enters text labels st st' r → EnterLaw cs text labels r
enter_law M cs st st' sh text labels (Ok n) run e =
    let k = kept run in let a = e.0 in let more = a.next in
    let longer : length (roots (nodes st')) ≡ length (roots (nodes st)) + 1 = ap length more.roots_are ∙ length_push (roots (nodes st)) _ in (
      more.number ∙ sym k.counted,
      (
        a.tree,
        a.is,
        a.listed,
        (
          omega (arith, k.counted, longer, few_roots (nodes st')),
          (
            length (shapes (nodes st)),
            k.nodes_in,
            omega (arith, few_shapes (nodes st'), ap length more.nodes_are, length-append (shapes (nodes st)) more.new, more.long),
          ),
        ),
      ),
    )
enter_law M cs st st' sh text labels (Err Grammar) run e = e.0
enter_law M cs st st' sh text labels (Err Nameless) run e = e.0
enter_law M cs st st' sh text labels (Err Full) run e = (e.0.0, e.0.1, e.0.2, no_room e.0.0 e.0.3)
  where
    no_room : (t : Tree) → NoRoom (nodes st) t → HasNoRoom cs t
    no_room t (eight_formulas h) = inl ((kept run).counted ∙ h)
    no_room t (too_many_nodes h) = inr (length (shapes (nodes st)), (kept run).nodes_in, h)
enter_law M cs st st' sh text labels (Err x) run e = absurd e.0

-- the formula of a number
the_formula : (M : Lts) (st : Study) (sh : Sheets) (cs : List Call) (n : ℕ) → Kept M cs st sh → n < formulas st → OnlyFormulaOf cs n (formula_of (nodes st) n)
the_formula M st sh cs n k l = (k.named n l, λ g h. k.only n g h)

-- the root of a formula is one of its nodes
root_of_formula : (ns : Nodes) (n : ℕ) → n < length (roots ns) → OfFormula ns n (root ns n)
root_of_formula ns n l = (ns.ascending n l, omega arith)

pub judge_law : {S : Type 0} (sheets : S → Sheets) (N M : Lts) (alike : Alike N M) (cs : List Call) (st st' : Study) (shelf shelf' : S) (n : ℕ) (r : Result Verdict Refusal)
    → Run M cs st (sheets shelf) → Judges sheets N n st st' shelf shelf' r → JudgeLaw M N.states cs n r
judge_law sheets N M alike cs st st' shelf shelf' n (Ok v) run e =
    let k = kept run in
    let same : N.states ≡ M.states = e.fits.0 ∙ k.states_are in
    let l = e.marked.entered in (
      same,
      subst (λ (L : Lts). (f : Formula) × OnlyFormulaOf cs n f × ((X : ℕ → Bool) × RightMarks L f X × (said v ≡ meant.verdict L X))) (alike same)
          (formula_of (nodes st) n, the_formula M st (sheets shelf) cs n k l, ((sheets shelf').on (root (nodes st) n), e.marked.right (root (nodes st) n) (root_of_formula (nodes st) n l), e.verdict_is)),
    )
judge_law sheets N M alike cs st st' shelf shelf' n (Err Short) run e =
    let k = kept run in λ same. e.0 (same ∙ sym k.states_are, k.covers ∙ sym k.states_are)
judge_law sheets N M alike cs st st' shelf shelf' n (Err Unheard) run e =
    let k = kept run in (e.0.0 ∙ k.states_are, λ f h. absurd (omega (arith, e.1, k.known n f h)))
judge_law sheets N M alike cs st st' shelf shelf' n (Err x) run e = absurd e

pub ask_law : (N M : Lts) (cs : List Call) (st : Study) (sh : Sheets) (n s : ℕ) (r : Result Bool Refusal) → Run M cs st sh → Asks N sh st n s r
    → AskLaw M N.states cs n s r
ask_law N M cs st sh n s (Ok b) run e =
    let k = kept run in let l = e.1.0 in
    let inside : s < M.states = omega (arith, e.2, k.states_are) in (
      e.0.0 ∙ k.states_are,
      k.flagged n e.1,
      inside,
      (
        formula_of (nodes st) n,
        the_formula M st sh cs n k l,
        subst (λ (x : Bool). IsTrue x ↔ Holds M (formula_of (nodes st) n) s) (sym e.3)
            (k.marks n e.1 (root (nodes st) n) (root_of_formula (nodes st) n l) s inside),
      ),
    )
ask_law N M cs st sh n s (Err Short) run e = let k = kept run in λ same. e (same ∙ sym k.states_are, k.covers ∙ sym k.states_are)
ask_law N M cs st sh n s (Err Unheard) run e = let k = kept run in (e.0.0 ∙ k.states_are, λ j. e.1 (k.judges n j))
ask_law N M cs st sh n s (Err Range) run e =
    let k = kept run in (e.0.0 ∙ k.states_are, k.flagged n e.1, omega (arith, e.2, k.states_are))
ask_law N M cs st sh n s (Err x) run e = absurd e

-- a path is handed out exactly where there is a deciding path
module _ {V : Type 0} (scale : Scale V) (tariff : ℕ → ℕ) where
  lasts : (M : Lts) (s : ℕ) (K : Kind) (p : DecidingPath) → Chosen M s K p → Lasts M s K
  lasts M s K (ended v) c = inl (v, c)
  lasts M s K (looping v w) c = inr (v, w, c.1)

  has_lasting : (M : Lts) (q : Quantifier) (o : Temporal) (First Second : Kind) (s : ℕ) (p : DecidingPath) → Lasting q o First Second (λ K. Chosen M s K p)
      → Lasting q o First Second (Lasts M s)
  has_lasting M E U First Second s p c = c
  has_lasting M E W First Second s p c = lasts M s _ p c
  has_lasting M A U First Second s p c = lasts M s _ p c
  has_lasting M A W First Second s p c = c

  has_decisive : (M : Lts) (q : Quantifier) (o : Temporal) (First Second : Kind) (s : ℕ) (p : DecidingPath)
      → LightestOne scale tariff M (OnlyFirst First Second) (Goal q First Second) s p → HasDeciding M q o First Second s
  has_decisive M q o First Second s (ended v) l = inl (v, l.0)
  has_decisive M q o First Second s (looping v w) l = absurd l

  has_one : (M : Lts) (q : Quantifier) (o : Temporal) (First Second : Kind) (s : ℕ) (p : Option DecidingPath) → HandedOut scale tariff M q o First Second s p
      → IsSome p ↔ HasDeciding M q o First Second s
  has_one M q o First Second s None h = (λ e. absurd (false≢true e), λ d. absurd (h d))
  has_one M q o First Second s (Some p) h = (
    λ e. elim h.1 [ inl l ↦ has_decisive M q o First Second s p l | inr l ↦ inr (has_lasting M q o First Second s p l.1) ],
    λ d. refl,
  )

  no_one : (p : Option DecidingPath) → p ≡ None → IsSome p ↔ ⊥
  no_one p e = (λ h. absurd (false≢true (sym (ap is_some e) ∙ h)), λ x. absurd x)

  has_one_of : (M : Lts) (f : Formula) (s : ℕ) (p : Option DecidingPath) → HandedOutOf scale tariff M f s p → IsSome p ↔ HasDecidingOf M f s
  has_one_of M TRUE s p h = no_one p h
  has_one_of M FALSE s p h = no_one p h
  has_one_of M (NOT f) s p h = has_one_of M f s p h
  has_one_of M (AND f g) s p h = no_one p h
  has_one_of M (OR f g) s p h = no_one p h
  has_one_of M (path q o c f d g) s p h = has_one M q o (Part c (Holds M f)) (Part d (Holds M g)) s p h

module _ {W : Type 0} (q : PathCall W) (N M : Lts) (alike : Alike N M) (cs : List Call) (st : Study) (sh : Sheets) (before after : Held W) where
  abbrev n : ℕ
  n = q.formula

  right_by : {L : Lts} → L ≡ M → RightSheets M (nodes st) n sh → RightSheets L (nodes st) n sh
  right_by e right = subst (λ (K : Lts). RightSheets K (nodes st) n sh) (sym e) right

  short : (k : ℕ) → TooShort k before → room before < k
  short k t = elim t [ inl x ↦ omega arith | inr x ↦ elim x [ inl y ↦ omega arith | inr y ↦ omega arith ] ]

  -- what is handed out, by right marks
  handed : (r : Found) → N.states ≡ M.states → RightSheets M (nodes st) n sh → PathFound (asked q N sh st) before after r
      → HandedOutOf q.scale (tariff q) M (formula_of (nodes st) n) q.state (path_in after.stem after.cycle r)
  handed r same right found =
      subst (λ (L : Lts). HandedOutOf q.scale (tariff q) L (formula_of (nodes st) n) q.state (path_in after.stem after.cycle r)) (alike same)
      (found.path (right_by (alike same) right))

  pub path_law : (r : Result Found Refusal) → Run M cs st sh → FindsPath q N sh st before after r → PathLaw q M N.states cs (room before) (path_answer after r)
  path_law (Ok r) run e =
      let k = kept run in
      let same : N.states ≡ M.states = e.0.0 ∙ k.states_are in
      let free = e.2.1 in
      let inside : q.state < M.states = omega (arith, free.0, same) in (
        same,
        k.flagged n e.1,
        inside,
        omega (arith, same, free.1.work, free.1.stem, free.1.cycle),
        (
          formula_of (nodes st) n,
          the_formula M st sh cs n k e.1.0,
          (
            handed r same (k.marks n e.1) e.2.2,
            has_one_of q.scale (tariff q) M (formula_of (nodes st) n) q.state (path_in after.stem after.cycle r) (handed r same (k.marks n e.1) e.2.2),
            where_shown M (formula_of (nodes st) n) q.state inside,
          ),
        ),
      )
  path_law (Err Short) run (inl e) = let k = kept run in inl (λ same. e.0 (same ∙ sym k.states_are, k.covers ∙ sym k.states_are))
  path_law (Err Short) run (inr e) = let k = kept run in elim e.2.0 [
    | inl x ↦ absurd (x (e.0.1 ∙ sym e.0.0))
    | inr x ↦
        let same : N.states ≡ M.states = e.0.0 ∙ k.states_are in
        inr (same, k.flagged n e.1, omega (arith, same, x.1.0), omega (arith, same, short N.states x.1.1))
  ]
  path_law (Err Unheard) run e = let k = kept run in (e.0.0 ∙ k.states_are, λ j. e.1 (k.judges n j))
  path_law (Err Range) run e =
      let k = kept run in let same : N.states ≡ M.states = e.0.0 ∙ k.states_are in (same, k.flagged n e.1, omega (arith, same, e.2.1))
  path_law (Err x) run e = absurd e

-- what the calls tell goes on
pub judges_on : {S : Type 0} (sheets : S → Sheets) (M : Lts) (n : ℕ) (st st' : Study) (shelf shelf' : S) (r : Result Verdict Refusal) → Judges sheets M n st st' shelf shelf' r
    → Judges (λ x. x) M n st st' (sheets shelf) (sheets shelf') r
judges_on sheets M n st st' shelf shelf' (Ok v) e = e
judges_on sheets M n st st' shelf shelf' (Err Short) e = (e.0, e.1, ap sheets e.2)
judges_on sheets M n st st' shelf shelf' (Err Unheard) e = (e.0, e.1, e.2, ap sheets e.3)
judges_on sheets M n st st' shelf shelf' (Err x) e = absurd e

-- what is handed out by a weight is a deciding path by none
module _ {W : Type 0} (scale : Scale W) (tariff : ℕ → ℕ) where
  lightest_one : (M : Lts) (Pass Last : Kind) (s : ℕ) (p : DecidingPath) → LightestOne scale tariff M Pass Last s p → LightestOne no_weight (λ a. 0) M Pass Last s p
  lightest_one M Pass Last s (ended v) l = (l.0, λ w d. refl)
  lightest_one M Pass Last s (looping v w) l = l

  weighed : (M : Lts) (q : Quantifier) (o : Temporal) (First Second : Kind) (s : ℕ) (p : Option DecidingPath) → HandedOut scale tariff M q o First Second s p
      → HandedOut no_weight (λ a. 0) M q o First Second s p
  weighed M q o First Second s None h = h
  weighed M q o First Second s (Some p) h = (h.0, elim h.1 [ inl l ↦ inl (lightest_one M _ _ s p l) | inr l ↦ inr l ])

  unweighed : (M : Lts) (f : Formula) (s : ℕ) (p : Option DecidingPath) → HandedOutOf scale tariff M f s p → HandedOutOf no_weight (λ a. 0) M f s p
  unweighed M TRUE s p h = h
  unweighed M FALSE s p h = h
  unweighed M (NOT f) s p h = unweighed M f s p h
  unweighed M (AND f g) s p h = h
  unweighed M (OR f g) s p h = h
  unweighed M (path q o c f d g) s p h = weighed M q o (Part c (Holds M f)) (Part d (Holds M g)) s p h

pub path_tells : {W : Type 0} (q : PathCall W) (M : Lts) (cs : List Call) (st : Study) (sh : Sheets) (before after : Held W) (r : Result Found Refusal) → Run M cs st sh
    → FindsPath q M sh st before after r → PathTells M sh st q.formula q.state (path_answer after r)
path_tells q M cs st sh before after (Ok r) run e = (
  e.1,
  omega (arith, e.2.1.0, e.0.0),
  λ right. unweighed q.scale (tariff q) M (formula_of (nodes st) q.formula) q.state (path_in after.stem after.cycle r) (e.2.2.path right),
)
path_tells q M cs st sh before after (Err Short) run (inl e) = let k = kept run in absurd (e.0 (sym k.states_are, k.covers ∙ sym k.states_are))
path_tells q M cs st sh before after (Err Short) run (inr e) = (e.1, elim e.2.0 [ inl x ↦ absurd (x (e.0.1 ∙ sym e.0.0)) | inr x ↦ omega (arith, e.0.0, x.1.0) ])
path_tells q M cs st sh before after (Err Unheard) run e = e.1
path_tells q M cs st sh before after (Err Range) run e = (e.1, omega (arith, e.0.0, e.2.1))
path_tells q M cs st sh before after (Err x) run e = absurd e
