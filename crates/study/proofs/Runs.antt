-- What every run keeps: the study and the sheets say what the calls say.
use Rattle.std.proofs.Common.{◌≡◌, ◌↔◌, ℕ, zero, suc, ◌+◌, ◌<◌, ◌≤◌, ◌⊎◌, Bool, true, false, List, [], ◌∷◌, length, slice_index_or, slice_set, Ok, Err, IsTrue, sym, ap, ◌∙◌, subst, inl, inr, arith}
use Rattle.std.proofs.lemmas.Bool.{both_ways, cases_lt, cases_eq, cases_order}
use Rattle.std.proofs.lemmas.List.{length-set, length-append, length_push, get_or-set_same, get_or-set_other}
use Rattle.base.specs.declared.refusal.Refusal.TheVariants.{Short, Unheard}
use Rattle.meaning.specs.Formula.{Formula, Holds}
use Rattle.meaning.specs.Laws.{RightMarks}
use Rattle.meaning.specs.Lts.{Lts}
use Rattle.shelf.specs.Sheets.{Sheets}
use Rattle.formula.specs.declared.nodes.Nodes.{Nodes}
use Rattle.formula.specs.Entering.{Added, OneMore}
use Rattle.formula.specs.Formulas.{by_names}
use Rattle.formula.specs.Nodes.{shapes, roots, first, root, OfFormula, formula_of}
use Rattle.formula.specs.Shapes.{formula_at}
use Rattle.formula.specs.Tables.{root_of, first_of, Ascending}
use Rattle.formula.specs.Vocabulary.{by_labels}
use Rattle.formula.proofs.Decoding.{earlier}
use Rattle.formula.proofs.Entries.{few_roots, root_within}
use Rattle.formula.proofs.Readings.{one_reading}
use Rattle.formula.proofs.Standing.{root_kept, first_kept}
use Rattle.paths.specs.Asking.{RightSheets}
use Rattle.study.specs.Study.{states, nodes, records, marked_as}
use Rattle.study.specs.Runs.{Call, enter, judge, Run, opened, entered, judged, asked, path_found, elsewhere, Elsewhere, FormulaOf, JudgedIn, entered_in, NodesIn}
use Rattle.study.specs.declared.record.Record.{Record}
use Rattle.study.specs.declared.study.Study.{Study}
use Rattle.study.specs.declared.verdict.Verdict.{Verdict}
use Rattle.study.proofs.Links.{below_48}

abbrev pub Flagged : Nodes → List Record → ℕ → Type 0
Flagged ns rs n = (n < length (roots ns)) × IsTrue (slice_index_or rs n (marked_as false)).judged

-- By what the calls say: how many formulas and nodes they entered, which formula has a number, and
-- which numbers were judged.
pub record Fine (M : Lts) (count : ℕ) (HasNodes : ℕ → Type 0) (Names : ℕ → Formula → Type 0) (Judged : ℕ → Type 0)
    (covered : ℕ) (ns : Nodes) (rs : List Record) (sh : Sheets) : Type 0 where
  pub covers : sh.covers ≡ M.states
  pub states_are : covered ≡ M.states
  pub rows : length rs ≡ 8
  pub counted : count ≡ length (roots ns)
  pub nodes_in : HasNodes (length (shapes ns))
  pub named : (n : ℕ) → n < length (roots ns) → Names n (formula_of ns n)
  pub known : (n : ℕ) (f : Formula) → Names n f → n < length (roots ns)
  pub only : (n : ℕ) (f : Formula) → Names n f → f ≡ formula_of ns n
  pub flagged : (n : ℕ) → Flagged ns rs n → Judged n
  pub judges : (n : ℕ) → Judged n → Flagged ns rs n
  pub marks : (n : ℕ) → Flagged ns rs n → RightSheets M ns n sh

abbrev Told : Lts → List Call → ℕ → Nodes → List Record → Sheets → Type 0
Told M cs = Fine M (entered_in cs) (NodesIn cs) (FormulaOf cs) (JudgedIn cs)

abbrev pub Kept : Lts → List Call → Study → Sheets → Type 0
Kept M cs st sh = Told M cs (states st) (nodes st) (records st) sh

-- marks stay right where no mark changes
right_on : (M : Lts) (f : Formula) (X Y : ℕ → Bool) → ((s : ℕ) → Y s ≡ X s) → RightMarks M f X → RightMarks M f Y
right_on M f X Y same right s l = subst (λ (b : Bool). IsTrue b ↔ Holds M f s) (sym (same s)) (right s l)

-- the nodes of a later formula come later
later : (rs : List ℕ) → Ascending rs → (i j : ℕ) → i < j → j < length rs → root_of rs i < first_of rs j
later rs up i zero h l = absurd (omega arith)
later rs up i (suc j) h l = at (cases_lt i j) (later rs up i j)
  where
    at : (i < j) ⊎ (j ≤ i) → (i < j → j < length rs → root_of rs i < first_of rs j) → root_of rs i < first_of rs (suc j)
    at (inl k) go = omega (arith, go k (omega arith), up j (omega arith))
    at (inr k) go = let e : j ≡ i = omega arith in omega (arith, ap (root_of rs) e)

-- no node is of two formulas
apart : (ns : Nodes) (m n k : ℕ) → m < length (roots ns) → n < length (roots ns) → (m ≡ n → ⊥) → OfFormula ns m k → OfFormula ns n k → ⊥
apart ns m n k l h ne p q =
    elim (cases_order m n) [
      | inl e ↦ ne e
      | inr o ↦ elim o [
        | inl a ↦ absurd (omega (arith, later (roots ns) ns.ascending m n a h, p.1, q.0))
        | inr a ↦ absurd (omega (arith, later (roots ns) ns.ascending n m a l, q.1, p.0))
      ]
    ]

none : (M : Lts) (covered : ℕ) (ns : Nodes) (rs : List Record) (sh : Sheets) → sh.covers ≡ M.states → covered ≡ M.states → length rs ≡ 8 → length (roots ns) ≡ 0
    → length (shapes ns) ≡ 0 → Told M [] covered ns rs sh
none M covered ns rs sh a b rows c d = record {
  covers = a;
  states_are = b;
  rows = rows;
  counted = sym c;
  nodes_in = d;
  named = λ n l. absurd (omega (arith, c));
  known = λ n f p. absurd p;
  only = λ n f p. absurd p;
  flagged = λ n p. absurd (omega (arith, c, p.0));
  judges = λ n p. absurd p;
  marks = λ n p. absurd (omega (arith, c, p.0));
}

-- a formula more
module _ (M : Lts) (cs : List Call) (covered : ℕ) (ns : Nodes) (rs : List Record) (sh : Sheets) (k : Told M cs covered ns rs sh)
    (text : List ℕ) (labels : List (List ℕ)) (ms : Nodes) (n : ℕ) (a : Added text (by_labels labels) ns ms n) where
  more : OneMore (by_labels labels) a.tree ns ms n
  more = a.next

  one_longer : length (roots ms) ≡ length (roots ns) + 1
  one_longer = ap length more.roots_are ∙ length_push (roots ns) _

  same_nodes : (m : ℕ) → m < length (roots ns) → RightSheets M ns m sh → RightSheets M ms m sh
  same_nodes m l right i h =
      let f : first ms m ≡ first ns m = ap (λ xs. first_of xs m) more.roots_are ∙ first_kept (roots ns) _ m (omega arith) in
      let r : root ms m ≡ root ns m = ap (λ xs. root_of xs m) more.roots_are ∙ root_kept (roots ns) _ m l in
      let e : formula_at (shapes ms) i ≡ formula_at (shapes ns) i =
      ap (λ xs. formula_at xs i) more.nodes_are ∙ earlier (shapes ns) more.new i (omega (arith, h.1, r, root_within ns m l)) in
      subst (λ (x : Formula). RightMarks M x (sh.on i)) (sym e) (right i (omega (arith, f, h.0), omega (arith, r, h.1)))

  -- what is flagged was so before
  before : (m : ℕ) → Flagged ms (slice_set rs n (marked_as false)) m → Flagged ns rs m
  before m p = at (cases_eq m n)
    where
      at : (m ≡ n) ⊎ (m ≡ n → ⊥) → Flagged ns rs m
      at (inl e) =
          absurd (both_ways _
          (ap (λ (x : Record). x.judged) (ap (λ (i : ℕ). slice_index_or (slice_set rs n (marked_as false)) i (marked_as false)) e
          ∙ get_or-set_same rs n (marked_as false) (marked_as false) (omega (arith, k.rows, few_roots ms, one_longer, more.number))))
          p.1)
      at (inr ne) = (
        omega (arith, p.0, one_longer, more.number),
        ap (λ (x : Record). x.judged) (sym (get_or-set_other rs n m (marked_as false) (marked_as false) ne)) ∙ p.1,
      )

  after : (m : ℕ) → Flagged ns rs m → Flagged ms (slice_set rs n (marked_as false)) m
  after m p = (
    omega (arith, p.0, one_longer),
    ap (λ (x : Record). x.judged) (get_or-set_other rs n m (marked_as false) (marked_as false) (λ e. absurd (omega (arith, p.0, e, more.number)))) ∙ p.1,
  )

  kept_enter : Told M (enter text labels (Ok n) ∷ cs) covered ms (slice_set rs n (marked_as false)) sh
  kept_enter = record {
    covers = k.covers;
    states_are = k.states_are;
    rows = length-set rs n _ ∙ k.rows;
    counted = omega (arith, one_longer, k.counted);
    nodes_in = (
      length (shapes ns),
      a.tree,
      k.nodes_in,
      a.is.parses,
      omega (arith, ap length more.nodes_are, length-append (shapes ns) more.new, more.long),
    );
    named = λ m l. elim (cases_lt m (length (roots ns))) [
      | inl h ↦ inr (subst (λ (f : Formula). FormulaOf cs m f) (sym (more.earlier m (omega (arith, more.number)))) (k.named m h))
      | inr h ↦
          let e : n ≡ m = omega (arith, one_longer, more.number) in
          inl (e, (a.tree, a.is.parses, ap (λ i. formula_of ms i) (sym e) ∙ more.decodes))
    ];
    known = λ m f p. elim p [
      | inl q ↦ omega (arith, q.0, one_longer, more.number)
      | inr q ↦ omega (arith, k.known m f q, one_longer)
    ];
    only = λ m f p. elim p [
      | inl q ↦
          q.1.2 ∙ ap (λ t. by_names (by_labels labels) t) (one_reading text q.1.0 a.tree q.1.1 a.is.parses) ∙ sym more.decodes
          ∙ ap (λ i. formula_of ms i) q.0
      | inr q ↦ k.only m f q ∙ sym (more.earlier m (omega (arith, k.known m f q, more.number)))
    ];
    flagged = λ m p. k.flagged m (before m p);
    judges = λ m p. after m (k.judges m p);
    marks = λ m p. let q = before m p in same_nodes m q.0 (k.marks m q);
  }

-- a formula judged
module _ (M : Lts) (cs : List Call) (covered : ℕ) (ns : Nodes) (rs : List Record) (sh : Sheets) (k : Told M cs covered ns rs sh)
    (n : ℕ) (v : Verdict) (sh' : Sheets) (l : n < length (roots ns)) (covers : sh'.covers ≡ sh.covers) (right : RightSheets M ns n sh')
    (others : (i s : ℕ) → ¬ OfFormula ns n i → sh'.on i s ≡ sh.on i s) where
  abbrev rs' : List Record
  rs' = slice_set rs n (marked_as true)

  other : (m : ℕ) → (m ≡ n → ⊥) → slice_index_or rs' m (marked_as false) ≡ slice_index_or rs m (marked_as false)
  other m ne = get_or-set_other rs n m (marked_as true) (marked_as false) ne

  flagged_at : (m : ℕ) → Flagged ns rs' m → (m ≡ n) ⊎ (m ≡ n → ⊥) → (n ≡ m) ⊎ JudgedIn cs m
  flagged_at m p (inl e) = inl (sym e)
  flagged_at m p (inr ne) = inr (k.flagged m (p.0, ap (λ (x : Record). x.judged) (sym (other m ne)) ∙ p.1))

  here : Flagged ns rs' n
  here = (l, ap (λ (x : Record). x.judged) (get_or-set_same rs n (marked_as true) (marked_as false) (omega (arith, k.rows, few_roots ns))))

  judges_at : (m : ℕ) → (n ≡ m) ⊎ JudgedIn cs m → Flagged ns rs' m
  judges_at m (inl e) = subst (λ (i : ℕ). Flagged ns rs' i) e here
  judges_at m (inr j) = elim (cases_eq m n) [
    | inl e ↦ subst (λ (i : ℕ). Flagged ns rs' i) (sym e) here
    | inr ne ↦ let p = k.judges m j in (p.0, ap (λ (x : Record). x.judged) (other m ne) ∙ p.1)
  ]

  marks_at : (m : ℕ) → Flagged ns rs' m → (m ≡ n) ⊎ (m ≡ n → ⊥) → RightSheets M ns m sh'
  marks_at m p (inl e) = subst (λ (i : ℕ). RightSheets M ns i sh') (sym e) right
  marks_at m p (inr ne) = λ i h.
      right_on M (formula_at (shapes ns) i) (sh.on i) (sh'.on i) (λ s. others i s (apart ns m n i p.0 l ne h))
      (k.marks m (p.0, ap (λ (x : Record). x.judged) (sym (other m ne)) ∙ p.1) i h)

  kept_judge : Told M (judge n (Ok v) ∷ cs) covered ns rs' sh'
  kept_judge = record {
    covers = covers ∙ k.covers;
    states_are = k.states_are;
    rows = length-set rs n _ ∙ k.rows;
    counted = k.counted;
    nodes_in = k.nodes_in;
    named = k.named;
    known = k.known;
    only = k.only;
    flagged = λ m p. flagged_at m p (cases_eq m n);
    judges = judges_at;
    marks = λ m p. marks_at m p (cases_eq m n);
  }

kept_elsewhere : (M : Lts) (cs : List Call) (covered : ℕ) (ns : Nodes) (rs : List Record) (sh sh' : Sheets) → Told M cs covered ns rs sh → Elsewhere sh sh'
    → Told M cs covered ns rs sh'
kept_elsewhere M cs covered ns rs sh sh' k e = record {
  covers = e.covers ∙ k.covers;
  states_are = k.states_are;
  rows = k.rows;
  counted = k.counted;
  nodes_in = k.nodes_in;
  named = k.named;
  known = k.known;
  only = k.only;
  flagged = k.flagged;
  judges = k.judges;
  marks = λ m p i h.
      right_on M (formula_at (shapes ns) i) (sh.on i) (sh'.on i) (λ s. e.same i s (omega (arith, below_48 ns m i p.0 h))) (k.marks m p i h);
}

pub kept : {M : Lts} {cs : List Call} {st : Study} {sh : Sheets} → Run M cs st sh → Kept M cs st sh
kept {M} (opened {st = st} {sh = sh} o) =
    none M (states st) (nodes st) (records st) sh o.0 o.1 st.rows (ap length o.2) (ap length o.3)
kept {M} {sh = sh} (entered {cs = cs} {st = st} {st' = st'} {text = text} {labels = labels} {r = Ok n} run e) =
    subst (λ (x : ℕ). Told M (enter text labels (Ok n) ∷ cs) x (nodes st') (records st') sh) (sym e.2)
    (subst (λ (rs : List Record). Told M (enter text labels (Ok n) ∷ cs) (states st) (nodes st') rs sh) (sym e.1)
    (kept_enter M cs (states st) (nodes st) (records st) sh (kept run) text labels (nodes st') n e.0))
kept {M} {sh = sh} (entered {cs = cs} {text = text} {labels = labels} {r = Err x} run e) = subst (λ (t : Study). Kept M cs t sh) (sym e.1) (kept run)
kept {M} (judged {cs = cs} {st = st} {st' = st'} {sh = sh} {sh' = sh'} {n = n} {r = Ok v} run e) =
    subst (λ (x : ℕ). Told M (judge n (Ok v) ∷ cs) x (nodes st') (records st') sh') (sym e.states_are)
    (subst (λ (ns : Nodes). Told M (judge n (Ok v) ∷ cs) (states st) ns (records st') sh') (sym e.nodes_are)
    (subst (λ (rs : List Record). Told M (judge n (Ok v) ∷ cs) (states st) (nodes st) rs sh') (sym e.records_are)
    (kept_judge M cs (states st) (nodes st) (records st) sh (kept run) n v sh' e.marked.entered e.marked.covers e.marked.right e.marked.others)))
kept {M} (judged {cs = cs} {st = st} {sh' = sh'} {r = Err Short} run e) =
    subst (λ (t : Study). Kept M cs t sh') (sym e.1) (subst (λ (h : Sheets). Kept M cs st h) (sym e.2) (kept run))
kept {M} (judged {cs = cs} {st = st} {sh' = sh'} {r = Err Unheard} run e) =
    subst (λ (t : Study). Kept M cs t sh') (sym e.2) (subst (λ (h : Sheets). Kept M cs st h) (sym e.3) (kept run))
kept (judged {r = Err x} run e) = absurd e
kept (asked run e) = kept run
kept (path_found run e) = kept run
kept {M} (elsewhere {cs = cs} {st = st} {sh = sh} {sh' = sh'} run e) = kept_elsewhere M cs (states st) (nodes st) (records st) sh sh' (kept run) e
