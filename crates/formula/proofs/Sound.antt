-- What the reader reads is of the grammar.
use Rattle.std.proofs.Common.{◌≡◌, ℕ, zero, suc, ◌+◌, ◌*◌, Bool, true, false, cond, List, [], ◌∷◌, length, Some, None, Option, sym, refl, ap, ◌∙◌, subst}
use Rattle.std.proofs.lemmas.Option.{same_Some}
use Rattle.formula.specs.declared.symbol.Quantifier.{Quantifier}
use Rattle.formula.specs.declared.symbol.Link.{Link}
use Rattle.formula.specs.declared.symbol.Symbol.{Symbol}
use Rattle.formula.specs.declared.symbol.Symbol.TheVariants.{True, False, Tau, Not, Short, Path, Between, Sign as signed, Connective as connective}
use Rattle.formula.specs.declared.symbol.Sign.{Sign}
use Rattle.formula.specs.declared.symbol.Sign.TheVariants.{Open, Close, BracketOpen, BracketClose, BraceOpen, BraceClose}
use Rattle.formula.specs.declared.symbol.Connective.TheVariants.{And, Or}
use Rattle.formula.specs.Tokens.{Tok, symbol, name}
use Rattle.formula.specs.Trees.{Acts, all, complement, Tree, TRUE, NOT, short, path}
use Rattle.formula.specs.Grammar as grammar
use Rattle.formula.specs.Grammar.{Level, or_level, and_level, tight, ActionFormula, Derives, DerivesPart, begins}
use Rattle.formula.specs.Reading.{past_sign, past_connective, if_there, Got, and_then, Stage, OrLevel, OrMore, AndLevel, AndMore, Tight, Rules, read, ended_by, in_group, action_at, action, action_rules, in_braces, with_formula, after_braces, part, link_of, linked, link, second_part, two_parts, formula_at, formula, formula_rules, nothing_after, whole_at, tree_of}
use Rattle.formula.proofs.Stages.{no_way, past_sign_out, past_connective_out, then_out}

-- what a stage gives, for a relation between tokens and what is read
abbrev pub Out : {X : Type 0} → (Level → List Tok → X → List Tok → Type 0) → Stage X → List Tok → X → List Tok → Type 0
Out D OrLevel ts x rest = D or_level ts x rest
Out D (OrMore y) ts x rest = (us : List Tok) → D or_level us y ts → D or_level us x rest
Out D AndLevel ts x rest = D and_level ts x rest
Out D (AndMore y) ts x rest = (us : List Tok) → D and_level us y ts → D and_level us x rest
Out D Tight ts x rest = D tight ts x rest

abbrev Gives : {X : Type 0} → (Level → List Tok → X → List Tok → Type 0) → (Stage X → List Tok → Got X) → Type 0
Gives {X} D r = (l : Stage X) (ts : List Tok) (x : X) (rest : List Tok) → r l ts ≡ Some (x, rest) → Out D l ts x rest

-- chains, for a relation that has the rules of chains
module _ {X : Type 0} (R : Rules X) (D : Level → List Tok → X → List Tok → Type 0)
    (no_or : (ts rest : List Tok) (x : X) → D and_level ts x rest → D or_level ts x rest)
    (with_or : (ts us rest : List Tok) (x y : X) → D or_level ts x (symbol (connective Or) ∷ us) → D and_level us y rest → D or_level ts (R.either x y) rest)
    (no_and : (ts rest : List Tok) (x : X) → D tight ts x rest → D and_level ts x rest)
    (with_and : (ts us rest : List Tok) (x y : X) → D and_level ts x (symbol (connective And) ∷ us) → D tight us y rest → D and_level ts (R.both x y) rest)
    (by-rule : (r : Stage X → List Tok → Got X) → Gives D r → (ts : List Tok) (x : X) (rest : List Tok) → R.tightly r ts ≡ Some (x, rest) → D tight ts x rest) where
  or_out : (r : Stage X → List Tok → Got X) → Gives D r → (y : X) (ts : List Tok) (x : X) (rest : List Tok) (o : Option (List Tok)) → past_connective Or ts ≡ o →
      if_there {X = Got X} o (λ us. and_then (r AndLevel us) (λ z vs. r (OrMore (R.either y z)) vs)) (Some (y, ts)) ≡ Some (x, rest) → Out D (OrMore y) ts x rest
  or_out r g y ts x rest None h e = λ us d. subst (λ p. D or_level us p.0 p.1) (same_Some _ _ e) d
  or_out r g y ts x rest (Some vs) h e = λ us d.
      let k = then_out (r AndLevel vs) (λ z ws. r (OrMore (R.either y z)) ws) e in
      g (OrMore (R.either y k.0)) k.1 x rest k.3 us
      (with_or us vs k.1 y k.0 (subst (D or_level us y) (past_connective_out Or ts vs h) d) (g AndLevel vs k.0 k.1 k.2))

  and_out : (r : Stage X → List Tok → Got X) → Gives D r → (y : X) (ts : List Tok) (x : X) (rest : List Tok) (o : Option (List Tok)) → past_connective And ts ≡ o →
      if_there {X = Got X} o (λ us. and_then (r Tight us) (λ z vs. r (AndMore (R.both y z)) vs)) (Some (y, ts)) ≡ Some (x, rest) → Out D (AndMore y) ts x rest
  and_out r g y ts x rest None h e = λ us d. subst (λ p. D and_level us p.0 p.1) (same_Some _ _ e) d
  and_out r g y ts x rest (Some vs) h e = λ us d.
      let k = then_out (r Tight vs) (λ z ws. r (AndMore (R.both y z)) ws) e in
      g (AndMore (R.both y k.0)) k.1 x rest k.3 us
      (with_and us vs k.1 y k.0 (subst (D and_level us y) (past_connective_out And ts vs h) d) (g Tight vs k.0 k.1 k.2))

  reads_out : (n : ℕ) → Gives D (read R n)
  unfolding read
  reads_out zero l ts x rest e = no_way _ e
  reads_out (suc n) OrLevel ts x rest e =
      let k = then_out (read R n AndLevel ts) (λ y us. read R n (OrMore y) us) e in
      reads_out n (OrMore k.0) k.1 x rest k.3 ts (no_or ts k.1 k.0 (reads_out n AndLevel ts k.0 k.1 k.2))
  reads_out (suc n) (OrMore y) ts x rest e = or_out (read R n) (reads_out n) y ts x rest (past_connective Or ts) refl e
  reads_out (suc n) AndLevel ts x rest e =
      let k = then_out (read R n Tight ts) (λ y us. read R n (AndMore y) us) e in
      reads_out n (AndMore k.0) k.1 x rest k.3 ts (no_and ts k.1 k.0 (reads_out n Tight ts k.0 k.1 k.2))
  reads_out (suc n) (AndMore y) ts x rest e = and_out (read R n) (reads_out n) y ts x rest (past_connective And ts) refl e
  reads_out (suc n) Tight ts x rest e = by-rule (read R n) (reads_out n) ts x rest e

-- a sign at the end
ended_out : {X : Type 0} (s : Sign) (x y : X) (ts rest : List Tok) → ended_by s x ts ≡ Some (y, rest) → (x ≡ y) × (ts ≡ symbol (signed s) ∷ rest)
ended_out {X} s x y ts rest e = at (past_sign s ts) refl e
  where
    at : (o : Option (List Tok)) → past_sign s ts ≡ o → if_there {X = Got X} o (λ us. Some (x, us)) None ≡ Some (y, rest) → (x ≡ y) × (ts ≡ symbol (signed s) ∷ rest)
    at None h e = no_way _ e
    at (Some us) h e = let p = same_Some _ _ e in (ap (λ q. q.0) p, past_sign_out s ts us h ∙ ap (λ q. symbol (signed s) ∷ q.1) p)

-- parentheses
group_out : {X : Type 0} (D : List Tok → X → List Tok → Type 0) (E : List Tok → X → List Tok → Type 0)
    → ((ts rest : List Tok) (x : X) → D ts x (symbol (signed Close) ∷ rest) → E (symbol (signed Open) ∷ ts) x rest)
    → (s : Sign) (ts : List Tok) (g : Got X) → ((x : X) (rest : List Tok) → g ≡ Some (x, rest) → D ts x rest)
    → (x : X) (rest : List Tok) → in_group s g ≡ Some (x, rest) → E (symbol (signed s) ∷ ts) x rest
group_out D E close Open ts g inside x rest e =
    let k = then_out g (ended_by Close) e in
    let h = ended_out Close k.0 x k.1 rest k.3 in
    close ts rest x (subst (λ y. D ts y (symbol (signed Close) ∷ rest)) h.0 (subst (D ts k.0) h.1 (inside k.0 k.1 k.2)))
group_out D E close Close ts g inside x rest e = no_way _ e
group_out D E close BracketOpen ts g inside x rest e = no_way _ e
group_out D E close BracketClose ts g inside x rest e = no_way _ e
group_out D E close BraceOpen ts g inside x rest e = no_way _ e
group_out D E close BraceClose ts g inside x rest e = no_way _ e

at_pair : {X : Type 0} (D : X → List Tok → Type 0) {x y : X} {ts us : List Tok} → ◌≡◌ {A = Got X} (Some (x, ts)) (Some (y, us)) → D x ts → D y us
at_pair D e d = subst (λ p. D p.0 p.1) (same_Some _ _ e) d

-- action formulas
action_at_out : (r : Stage Acts → List Tok → Got Acts) → Gives ActionFormula r → (m : Symbol) (ts : List Tok) (c : Acts) (rest : List Tok) →
    action_at r m ts ≡ Some (c, rest) → ActionFormula tight (symbol m ∷ ts) c rest
action_at_out r g (signed s) ts c rest e =
    group_out (ActionFormula or_level) (ActionFormula tight) (λ us vs x d. grammar.ActionFormula.grouped d) s ts (r OrLevel ts) (λ x vs h. g OrLevel ts x vs h) c rest e
action_at_out r g True ts c rest e = at_pair (ActionFormula tight (symbol True ∷ ts)) e grammar.ActionFormula.true_word
action_at_out r g False ts c rest e = at_pair (ActionFormula tight (symbol False ∷ ts)) e grammar.ActionFormula.false_word
action_at_out r g Tau ts c rest e = at_pair (ActionFormula tight (symbol Tau ∷ ts)) e grammar.ActionFormula.tau_word
action_at_out r g Not ts c rest e =
    let k = then_out (r Tight ts) (λ d us. Some (complement d, us)) e in
    at_pair (ActionFormula tight (symbol Not ∷ ts)) k.3 (grammar.ActionFormula.negated (g Tight ts k.0 k.1 k.2))
action_at_out r g (Short o) ts c rest e = no_way _ e
action_at_out r g (Path q) ts c rest e = no_way _ e
action_at_out r g (Between l) ts c rest e = no_way _ e
action_at_out r g (connective d) ts c rest e = no_way _ e

action_out : (r : Stage Acts → List Tok → Got Acts) → Gives ActionFormula r → (ts : List Tok) (c : Acts) (rest : List Tok) → action r ts ≡ Some (c, rest) → ActionFormula tight ts c rest
action_out r g [] c rest e = no_way _ e
action_out r g (name w ∷ ts) c rest e = at_pair (ActionFormula tight (name w ∷ ts)) e grammar.ActionFormula.by_name
action_out r g (symbol m ∷ ts) c rest e = action_at_out r g m ts c rest e

pub actions_out : (n : ℕ) → Gives ActionFormula (read action_rules n)
actions_out n =
    reads_out action_rules ActionFormula (λ ts rest c d. grammar.ActionFormula.no_or d) (λ ts us rest c d x y. grammar.ActionFormula.with_or x y)
    (λ ts rest c d. grammar.ActionFormula.no_and d) (λ ts us rest c d x y. grammar.ActionFormula.with_and x y) action_out n

braces_out : (ts : List Tok) (c : Acts) (rest : List Tok) → in_braces ts ≡ Some (c, rest) → ActionFormula or_level ts c (symbol (signed BraceClose) ∷ rest)
unfolding in_braces
braces_out ts c rest e =
    let k = then_out (read action_rules (3 * length ts + 4) OrLevel ts) (ended_by BraceClose) e in
    let h = ended_out BraceClose k.0 c k.1 rest k.3 in
    subst (λ x. ActionFormula or_level ts x (symbol (signed BraceClose) ∷ rest)) h.0
    (subst (ActionFormula or_level ts k.0) h.1 (actions_out (3 * length ts + 4) OrLevel ts k.0 k.1 k.2))

-- parts
module _ (l : Level) (r : List Tok → Got Tree) (inside : (ts : List Tok) (t : Tree) (rest : List Tok) → r ts ≡ Some (t, rest) → Derives l ts t rest) where
  abbrev Is : List Tok → Acts × Tree → List Tok → Type 0
  Is ts p rest = DerivesPart l ts p.0 p.1 rest

  formula_out : (c : Acts) (ts : List Tok) (us : List Tok) (p : Acts × Tree) (rest : List Tok) →
      ((t : Tree) (vs : List Tok) → Derives l ts t vs → DerivesPart l us c t vs) → with_formula r c ts ≡ Some (p, rest) → DerivesPart l us p.0 p.1 rest
  formula_out c ts us p rest made e =
      let k = then_out (r ts) (λ t vs. Some ((c, t), vs)) e in
      at_pair (Is us) k.3 (made k.0 k.1 (inside ts k.0 k.1 k.2))

  after_out : (c : Acts) (ts us : List Tok) (p : Acts × Tree) (rest : List Tok) → ActionFormula or_level us c (symbol (signed BraceClose) ∷ ts) → (b : Bool) → begins ts ≡ b →
      cond b (with_formula r c ts) (Some ((c, TRUE), ts)) ≡ Some (p, rest) → DerivesPart l (symbol (signed BraceOpen) ∷ us) p.0 p.1 rest
  after_out c ts us p rest d true h e = formula_out c ts (symbol (signed BraceOpen) ∷ us) p rest (λ t vs f. grammar.DerivesPart.braces_then d f) e
  after_out c ts us p rest d false h e = at_pair (Is (symbol (signed BraceOpen) ∷ us)) e (grammar.DerivesPart.braces_alone d h)

  part-at_out : (ts : List Tok) (p : Acts × Tree) (rest : List Tok) (o : Option (List Tok)) → past_sign BraceOpen ts ≡ o →
      if_there o (λ us. and_then (in_braces us) (after_braces r)) (with_formula r all ts) ≡ Some (p, rest) → DerivesPart l ts p.0 p.1 rest
  part-at_out ts p rest None h e = formula_out all ts ts p rest (λ t vs f. grammar.DerivesPart.formula_alone f) e
  part-at_out ts p rest (Some us) h e =
      let k = then_out (in_braces us) (after_braces r) e in
      subst (λ x. DerivesPart l x p.0 p.1 rest) (sym (past_sign_out BraceOpen ts us h))
      (after_out k.0 k.1 us p rest (braces_out us k.0 k.1 k.2) (begins k.1) refl k.3)

  part_out : (ts : List Tok) (p : Acts × Tree) (rest : List Tok) → part r ts ≡ Some (p, rest) → DerivesPart l ts p.0 p.1 rest
  part_out ts p rest e = part-at_out ts p rest (past_sign BraceOpen ts) refl e

link-at_out : (m : Symbol) (ts : List Tok) (l : Link) (rest : List Tok) → linked (link_of m) ts ≡ Some (l, rest) → symbol m ∷ ts ≡ symbol (Between l) ∷ rest
link-at_out (signed s) ts l rest e = no_way _ e
link-at_out (connective c) ts l rest e = no_way _ e
link-at_out True ts l rest e = no_way _ e
link-at_out False ts l rest e = no_way _ e
link-at_out Tau ts l rest e = no_way _ e
link-at_out Not ts l rest e = no_way _ e
link-at_out (Short o) ts l rest e = no_way _ e
link-at_out (Path q) ts l rest e = no_way _ e
link-at_out (Between k) ts l rest e = let p = same_Some _ _ e in ap (λ q. symbol (Between q.0) ∷ q.1) p

link_out : (ts : List Tok) (l : Link) (rest : List Tok) → link ts ≡ Some (l, rest) → ts ≡ symbol (Between l) ∷ rest
link_out [] l rest e = no_way _ e
link_out (name w ∷ ts) l rest e = no_way _ e
link_out (symbol m ∷ ts) l rest e = link-at_out m ts l rest e

-- formulas
module _ (r : Stage Tree → List Tok → Got Tree) (g : Gives Derives r) where
  two_parts_out : (q : Quantifier) (ts : List Tok) (t : Tree) (rest : List Tok) → two_parts (r OrLevel) q ts ≡ Some (t, rest) →
      Derives tight (symbol (Path q) ∷ symbol (signed BracketOpen) ∷ ts) t rest
  two_parts_out q ts t rest e =
      let k = then_out (part (r OrLevel) ts) (λ p us. and_then (link us) (second_part (r OrLevel) q p)) e in
      let h = then_out (link k.1) (second_part (r OrLevel) q k.0) k.3 in
      let j = then_out (part (r OrLevel) h.1) (λ p us. ended_by BracketClose (path q h.0 k.0.0 k.0.1 p.0 p.1) us) h.3 in
      let i = ended_out BracketClose (path q h.0 k.0.0 k.0.1 j.0.0 j.0.1) t j.1 rest j.3 in
      let first = part_out or_level (r OrLevel) (g OrLevel) ts k.0 k.1 k.2 in
      let second = part_out or_level (r OrLevel) (g OrLevel) h.1 j.0 j.1 j.2 in
      subst (λ x. Derives tight (symbol (Path q) ∷ symbol (signed BracketOpen) ∷ ts) x rest) i.0
      (grammar.Derives.two_parts (subst (DerivesPart or_level ts k.0.0 k.0.1) (link_out k.1 h.0 h.1 h.2) first)
      (subst (DerivesPart or_level h.1 j.0.0 j.0.1) i.1 second))

  path_out : (q : Quantifier) (ts : List Tok) (t : Tree) (rest : List Tok) (o : Option (List Tok)) → past_sign BracketOpen ts ≡ o →
      if_there {X = Got Tree} o (two_parts (r OrLevel) q) None ≡ Some (t, rest) → Derives tight (symbol (Path q) ∷ ts) t rest
  path_out q ts t rest None h e = no_way _ e
  path_out q ts t rest (Some us) h e = subst (λ x. Derives tight (symbol (Path q) ∷ x) t rest) (sym (past_sign_out BracketOpen ts us h)) (two_parts_out q us t rest e)

  formula_at_out : (m : Symbol) (ts : List Tok) (t : Tree) (rest : List Tok) → formula_at r m ts ≡ Some (t, rest) → Derives tight (symbol m ∷ ts) t rest
  formula_at_out (signed s) ts t rest e =
      group_out (Derives or_level) (Derives tight) (λ us vs x d. grammar.Derives.grouped d) s ts (r OrLevel ts) (λ x vs h. g OrLevel ts x vs h) t rest e
  formula_at_out True ts t rest e = at_pair (Derives tight (symbol True ∷ ts)) e grammar.Derives.true_word
  formula_at_out False ts t rest e = at_pair (Derives tight (symbol False ∷ ts)) e grammar.Derives.false_word
  formula_at_out Tau ts t rest e = no_way _ e
  formula_at_out Not ts t rest e =
      let k = then_out (r Tight ts) (λ u us. Some (NOT u, us)) e in
      at_pair (Derives tight (symbol Not ∷ ts)) k.3 (grammar.Derives.negated (g Tight ts k.0 k.1 k.2))
  formula_at_out (Short o) ts t rest e =
      let k = then_out (part (r Tight) ts) (λ p us. Some (short o p.0 p.1, us)) e in
      at_pair (Derives tight (symbol (Short o) ∷ ts)) k.3 (grammar.Derives.one_part (part_out tight (r Tight) (g Tight) ts k.0 k.1 k.2))
  formula_at_out (Path q) ts t rest e = path_out q ts t rest (past_sign BracketOpen ts) refl e
  formula_at_out (Between l) ts t rest e = no_way _ e
  formula_at_out (connective c) ts t rest e = no_way _ e

  tight_out : (ts : List Tok) (t : Tree) (rest : List Tok) → formula r ts ≡ Some (t, rest) → Derives tight ts t rest
  tight_out [] t rest e = no_way _ e
  tight_out (name w ∷ ts) t rest e = no_way _ e
  tight_out (symbol m ∷ ts) t rest e = formula_at_out m ts t rest e

formulas_out : (n : ℕ) → Gives Derives (read formula_rules n)
formulas_out n =
    reads_out formula_rules Derives (λ ts rest c d. grammar.Derives.no_or d) (λ ts us rest c d x y. grammar.Derives.with_or x y)
    (λ ts rest c d. grammar.Derives.no_and d) (λ ts us rest c d x y. grammar.Derives.with_and x y) tight_out n

whole_out : (g : Got Tree) (t : Tree) → whole_at g ≡ Some t → g ≡ Some (t, [])
whole_out None t e = no_way _ e
whole_out (Some p) t e = at p.0 p.1 e
  where
    at : (u : Tree) (rest : List Tok) → nothing_after u rest ≡ Some t → ◌≡◌ {A = Got Tree} (Some (u, rest)) (Some (t, []))
    at u [] e = ap (λ x. Some (x, [])) (same_Some _ _ e)
    at u (x ∷ ts) e = no_way _ e

pub tree_out : (ts : List Tok) (t : Tree) → tree_of ts ≡ Some t → Derives or_level ts t []
unfolding tree_of
tree_out ts t e = formulas_out (3 * length ts + 4) OrLevel ts t [] (whole_out (read formula_rules (3 * length ts + 4) OrLevel ts) t e)
