-- What is of the grammar is read.
use Rattle.std.proofs.Common.{◌≡◌, ℕ, ◌+◌, ◌*◌, ◌<◌, ◌≤◌, true, cond, List, [], ◌∷◌, length, Some, None, refl, ap, ◌∙◌, arith}
use Rattle.std.proofs.lemmas.Bool.{false≢true}
use Rattle.formula.specs.declared.symbol.Symbol.{Symbol}
use Rattle.formula.specs.declared.symbol.Symbol.TheVariants.{True, False, Tau, Not, Short, Path, Between, Sign as signed, Connective as connective}
use Rattle.formula.specs.declared.symbol.Sign.{Sign}
use Rattle.formula.specs.declared.symbol.Sign.TheVariants.{Open, Close, BracketOpen, BracketClose, BraceOpen, BraceClose}
use Rattle.formula.specs.declared.symbol.Connective.TheVariants.{And, Or}
use Rattle.formula.specs.Tokens.{Tok, symbol, name}
use Rattle.formula.specs.Trees.{Acts, all, none, silent, named, complement, Tree, TRUE, FALSE, NOT, short, path}
use Rattle.formula.specs.Grammar as grammar
use Rattle.formula.specs.Grammar.{Level, or_level, and_level, tight, ActionFormula, Derives, DerivesPart, opens, begins_with, begins}
use Rattle.formula.specs.Reading.{past_sign, past_connective, if_there, Got, and_then, Stage, OrLevel, OrMore, AndLevel, AndMore, Tight, Rules, read, Reads, ended_by, action_rules, in_braces, with_formula, after_braces, part, link, second_part, formula_rules, whole_at, tree_of}
use Rattle.formula.proofs.Stages as stages
use Rattle.formula.proofs.Stages.{rank_small, tight-by}

-- what is read at a level goes on as its beginning
abbrev In : {X : Type 0} → Rules X → Level → List Tok → X → List Tok → Type 0
In {X} R or_level ts x rest = past_connective And rest ≡ None → (g : Got X) → Reads R (OrMore x) rest g → Reads R OrLevel ts g
In {X} R and_level ts x rest = (g : Got X) → Reads R (AndMore x) rest g → Reads R AndLevel ts g
In {X} R tight ts x rest = Reads R Tight ts (Some (x, rest))

-- where nothing that follows goes on with it
abbrev Stops : Level → List Tok → Type 0
Stops or_level rest = (past_connective And rest ≡ None) × (past_connective Or rest ≡ None)
Stops and_level rest = past_connective And rest ≡ None
Stops tight rest = Unit {0}

abbrev stage : {X : Type 0} → Level → Stage X
stage or_level = OrLevel
stage and_level = AndLevel
stage tight = Tight

ends : {X : Type 0} (R : Rules X) (l : Level) (ts : List Tok) (x : X) (rest : List Tok) → In R l ts x rest → Stops l rest → Reads R (stage l) ts (Some (x, rest))
ends R or_level ts x rest i s = i s.0 (Some (x, rest)) (stages.stop R Or x rest s.1)
ends R and_level ts x rest i s = i (Some (x, rest)) (stages.stop R And x rest s)
ends R tight ts x rest i s = i

-- action formulas
actions_shorter : {l : Level} {ts : List Tok} {c : Acts} {rest : List Tok} → ActionFormula l ts c rest → length rest ≤ length ts
actions_shorter (grammar.ActionFormula.no_or d) = actions_shorter d
actions_shorter (grammar.ActionFormula.with_or d e) = omega (arith, actions_shorter d, actions_shorter e)
actions_shorter (grammar.ActionFormula.no_and d) = actions_shorter d
actions_shorter (grammar.ActionFormula.with_and d e) = omega (arith, actions_shorter d, actions_shorter e)
actions_shorter grammar.ActionFormula.true_word = omega arith
actions_shorter grammar.ActionFormula.false_word = omega arith
actions_shorter grammar.ActionFormula.tau_word = omega arith
actions_shorter grammar.ActionFormula.by_name = omega arith
actions_shorter (grammar.ActionFormula.negated d) = omega (arith, actions_shorter d)
actions_shorter (grammar.ActionFormula.grouped d) = omega (arith, actions_shorter d)

actions_in : {l : Level} {ts : List Tok} {c : Acts} {rest : List Tok} → ActionFormula l ts c rest → In action_rules l ts c rest
actions_in (grammar.ActionFormula.no_or {ts} {rest} {c} d) = λ s g m.
    stages.some action_rules Or ts rest c g (actions_in d (Some (c, rest)) (stages.stop action_rules And c rest s)) (actions_shorter d) m
actions_in (grammar.ActionFormula.with_or {ts} {us} {rest} {c} {d} x y) = λ s g m.
    actions_in x refl g
    (stages.one_more action_rules Or c d (symbol (connective Or) ∷ us) us rest g refl (actions_in y (Some (d, rest)) (stages.stop action_rules And d rest s)) (actions_shorter y) m)
actions_in (grammar.ActionFormula.no_and {ts} {rest} {c} d) = λ g m. stages.some action_rules And ts rest c g (actions_in d) (actions_shorter d) m
actions_in (grammar.ActionFormula.with_and {ts} {us} {rest} {c} {d} x y) = λ g m.
    actions_in x g (stages.one_more action_rules And c d (symbol (connective And) ∷ us) us rest g refl (actions_in y) (actions_shorter y) m)
actions_in (grammar.ActionFormula.true_word {rest}) = tight-by action_rules (symbol True ∷ rest) (Some (all, rest)) (λ n h. refl)
actions_in (grammar.ActionFormula.false_word {rest}) = tight-by action_rules (symbol False ∷ rest) (Some (none, rest)) (λ n h. refl)
actions_in (grammar.ActionFormula.tau_word {rest}) = tight-by action_rules (symbol Tau ∷ rest) (Some (silent, rest)) (λ n h. refl)
actions_in (grammar.ActionFormula.by_name {w} {rest}) = tight-by action_rules (name w ∷ rest) (Some (named w, rest)) (λ n h. refl)
actions_in (grammar.ActionFormula.negated {ts} {rest} {c} d) =
    let i = actions_in d in
    tight-by action_rules (symbol Not ∷ ts) (Some (complement c, rest)) (λ n h. ap (λ g. and_then g (λ x us. Some (complement x, us))) (i n (omega arith)))
actions_in (grammar.ActionFormula.grouped {ts} {rest} {c} d) =
    let i = actions_in d refl (Some (c, symbol (signed Close) ∷ rest)) (stages.stop action_rules Or c (symbol (signed Close) ∷ rest) refl) in
    tight-by action_rules (symbol (signed Open) ∷ ts) (Some (c, rest)) (λ n h. ap (λ g. and_then g (ended_by Close)) (i n (omega arith)))

braces_in : {ts rest : List Tok} {c : Acts} → ActionFormula or_level ts c (symbol (signed BraceClose) ∷ rest) → in_braces ts ≡ Some (c, rest)
unfolding in_braces
braces_in {ts} {rest} {c} d =
    ap (λ g. and_then g (ended_by BraceClose))
    (actions_in d refl (Some (c, symbol (signed BraceClose) ∷ rest)) (stages.stop action_rules Or c (symbol (signed BraceClose) ∷ rest) refl) (3 * length ts + 4) (omega arith))

-- how a formula begins
formula-begins : {l : Level} {ts : List Tok} {t : Tree} {rest : List Tok} → Derives l ts t rest → begins ts ≡ true
formula-begins (grammar.Derives.no_or d) = formula-begins d
formula-begins (grammar.Derives.with_or d e) = formula-begins d
formula-begins (grammar.Derives.no_and d) = formula-begins d
formula-begins (grammar.Derives.with_and d e) = formula-begins d
formula-begins grammar.Derives.true_word = refl
formula-begins grammar.Derives.false_word = refl
formula-begins (grammar.Derives.negated d) = refl
formula-begins (grammar.Derives.grouped d) = refl
formula-begins (grammar.Derives.one_part p) = refl
formula-begins (grammar.Derives.two_parts p q) = refl

no_brace_sign : (s : Sign) (ts : List Tok) → opens s ≡ true → past_sign BraceOpen (symbol (signed s) ∷ ts) ≡ None
no_brace_sign Open ts e = refl
no_brace_sign Close ts e = refl
no_brace_sign BracketOpen ts e = refl
no_brace_sign BracketClose ts e = refl
no_brace_sign BraceOpen ts e = absurd (false≢true e)
no_brace_sign BraceClose ts e = refl

no_brace_at : (m : Symbol) (ts : List Tok) → begins_with m ≡ true → past_sign BraceOpen (symbol m ∷ ts) ≡ None
no_brace_at (signed s) ts e = no_brace_sign s ts e
no_brace_at (connective c) ts e = refl
no_brace_at True ts e = refl
no_brace_at False ts e = refl
no_brace_at Tau ts e = refl
no_brace_at Not ts e = refl
no_brace_at (Short o) ts e = refl
no_brace_at (Path q) ts e = refl
no_brace_at (Between l) ts e = refl

no_brace : (ts : List Tok) → begins ts ≡ true → past_sign BraceOpen ts ≡ None
no_brace [] e = refl
no_brace (name w ∷ ts) e = refl
no_brace (symbol m ∷ ts) e = no_brace_at m ts e

mutual
  formula_shorter : {l : Level} {ts : List Tok} {t : Tree} {rest : List Tok} → Derives l ts t rest → length rest ≤ length ts
  formula_shorter (grammar.Derives.no_or d) = formula_shorter d
  formula_shorter (grammar.Derives.with_or d e) = omega (arith, formula_shorter d, formula_shorter e)
  formula_shorter (grammar.Derives.no_and d) = formula_shorter d
  formula_shorter (grammar.Derives.with_and d e) = omega (arith, formula_shorter d, formula_shorter e)
  formula_shorter grammar.Derives.true_word = omega arith
  formula_shorter grammar.Derives.false_word = omega arith
  formula_shorter (grammar.Derives.negated d) = omega (arith, formula_shorter d)
  formula_shorter (grammar.Derives.grouped d) = omega (arith, formula_shorter d)
  formula_shorter (grammar.Derives.one_part p) = omega (arith, part_shorter p)
  formula_shorter (grammar.Derives.two_parts p q) = omega (arith, part_shorter p, part_shorter q)

  part_shorter : {l : Level} {ts : List Tok} {c : Acts} {t : Tree} {rest : List Tok} → DerivesPart l ts c t rest → length rest ≤ length ts
  part_shorter (grammar.DerivesPart.formula_alone d) = formula_shorter d
  part_shorter (grammar.DerivesPart.braces_alone a e) = omega (arith, actions_shorter a)
  part_shorter (grammar.DerivesPart.braces_then a d) = omega (arith, actions_shorter a, formula_shorter d)

-- a part is read by what reads its formula
abbrev PartIn : Level → List Tok → Acts → Tree → List Tok → Type 0
PartIn l ts c t rest = Stops l rest → (n : ℕ) → 3 * length ts + 3 < n → part (read formula_rules n (stage l)) ts ≡ Some ((c, t), rest)

abbrev F : Rules Tree
F = formula_rules

formula-part : (l : Level) (ts us : List Tok) (c : Acts) (t : Tree) (rest : List Tok) → In F l ts t rest → length ts ≤ length us → Stops l rest →
    (n : ℕ) → 3 * length us + 3 < n → with_formula (read F n (stage l)) c ts ≡ Some ((c, t), rest)
formula-part l ts us c t rest i fewer s n h =
    ap (λ g. and_then g (λ x vs. Some ((c, x), vs))) (ends F l ts t rest i s n (omega (arith, (rank_small {X = Tree} (stage l)).1)))

mutual
  formula_in : {l : Level} {ts : List Tok} {t : Tree} {rest : List Tok} → Derives l ts t rest → In F l ts t rest
  formula_in (grammar.Derives.no_or {ts} {rest} {t} d) = λ s g m. stages.some F Or ts rest t g (formula_in d (Some (t, rest)) (stages.stop F And t rest s)) (formula_shorter d) m
  formula_in (grammar.Derives.with_or {ts} {us} {rest} {t} {u} x y) = λ s g m.
      formula_in x refl g (stages.one_more F Or t u (symbol (connective Or) ∷ us) us rest g refl (formula_in y (Some (u, rest)) (stages.stop F And u rest s)) (formula_shorter y) m)
  formula_in (grammar.Derives.no_and {ts} {rest} {t} d) = λ g m. stages.some F And ts rest t g (formula_in d) (formula_shorter d) m
  formula_in (grammar.Derives.with_and {ts} {us} {rest} {t} {u} x y) = λ g m.
      formula_in x g (stages.one_more F And t u (symbol (connective And) ∷ us) us rest g refl (formula_in y) (formula_shorter y) m)
  formula_in (grammar.Derives.true_word {rest}) = tight-by F (symbol True ∷ rest) (Some (TRUE, rest)) (λ n h. refl)
  formula_in (grammar.Derives.false_word {rest}) = tight-by F (symbol False ∷ rest) (Some (FALSE, rest)) (λ n h. refl)
  formula_in (grammar.Derives.negated {ts} {rest} {t} d) =
      let i = formula_in d in
      tight-by F (symbol Not ∷ ts) (Some (NOT t, rest)) (λ n h. ap (λ g. and_then g (λ x us. Some (NOT x, us))) (i n (omega arith)))
  formula_in (grammar.Derives.grouped {ts} {rest} {t} d) =
      let i = formula_in d refl (Some (t, symbol (signed Close) ∷ rest)) (stages.stop F Or t (symbol (signed Close) ∷ rest) refl) in
      tight-by F (symbol (signed Open) ∷ ts) (Some (t, rest)) (λ n h. ap (λ g. and_then g (ended_by Close)) (i n (omega arith)))
  formula_in (grammar.Derives.one_part {o} {ts} {rest} {c} {t} p) =
      let i = part_in p tt in
      tight-by F (symbol (Short o) ∷ ts) (Some (short o c t, rest)) (λ n h. ap (λ g. and_then g (λ x us. Some (short o x.0 x.1, us))) (i n (omega arith)))
  formula_in (grammar.Derives.two_parts {q} {l} {ts} {us} {rest} {c} {d} {t} {u} x y) =
      let i = part_in x (refl, refl) in
      let j = part_in y (refl, refl) in
      let fewer = part_shorter x in
      tight-by F (symbol (Path q) ∷ symbol (signed BracketOpen) ∷ ts) (Some (path q l c t d u, rest)) (λ n h.
      ap (λ g. and_then g (λ p vs. and_then (link vs) (second_part (read F n OrLevel) q p))) (i n (omega arith))
      ∙ ap (λ g. and_then g (λ p vs. ended_by BracketClose (path q l c t p.0 p.1) vs)) (j n (omega arith)))

  part_in : {l : Level} {ts : List Tok} {c : Acts} {t : Tree} {rest : List Tok} → DerivesPart l ts c t rest → PartIn l ts c t rest
  part_in (grammar.DerivesPart.formula_alone {l} {ts} {rest} {t} d) =
      let i = formula_in d in
      λ s n h.
      ap (λ o. if_there o (λ us. and_then (in_braces us) (after_braces (read F n (stage l)))) (with_formula (read F n (stage l)) all ts)) (no_brace ts (formula-begins d))
      ∙ formula-part l ts ts all t rest i (omega arith) s n h
  part_in (grammar.DerivesPart.braces_alone {l} {ts} {rest} {c} a e) = λ s n h.
      ap (λ g. and_then g (after_braces (read F n (stage l)))) (braces_in a)
      ∙ ap (λ b. cond b (with_formula (read F n (stage l)) c rest) (Some ((c, TRUE), rest))) e
  part_in (grammar.DerivesPart.braces_then {l} {ts} {us} {rest} {c} {t} a d) =
      let i = formula_in d in
      λ s n h.
      ap (λ g. and_then g (after_braces (read F n (stage l)))) (braces_in a)
      ∙ ap (λ b. cond b (with_formula (read F n (stage l)) c us) (Some ((c, TRUE), us))) (formula-begins d)
      ∙ formula-part l us (symbol (signed BraceOpen) ∷ ts) c t rest i (omega (arith, actions_shorter a)) s n h

pub tree_in : (ts : List Tok) (t : Tree) → Derives or_level ts t [] → tree_of ts ≡ Some t
unfolding tree_of
tree_in ts t d = ap whole_at (ends F or_level ts t [] (formula_in d) (refl, refl) (3 * length ts + 4) (omega arith))
