-- The grammar: which tokens are a formula, and which. `rest` is what follows.
-- The symbols that signs and connectives are stand as `signed` and `connective`, since `Sign` and
-- `Connective` are types.
use Rattle.std.specs.Prelude.{◌≡◌, ℕ, Bool, true, false, IsFalse, List, [], ◌∷◌, Some}
use Rattle.formula.specs.declared.symbol.Operator.{Operator}
use Rattle.formula.specs.declared.symbol.Quantifier.{Quantifier}
use Rattle.formula.specs.declared.symbol.Link.{Link}
use Rattle.formula.specs.declared.symbol.Symbol.{Symbol}
use Rattle.formula.specs.declared.symbol.Symbol.TheVariants.{True, False, Tau, Not, Short, Path, Between, Sign as signed, Connective as connective}
use Rattle.formula.specs.declared.symbol.Sign.{Sign}
use Rattle.formula.specs.declared.symbol.Sign.TheVariants.{Open, Close, BracketOpen, BracketClose, BraceOpen, BraceClose}
use Rattle.formula.specs.declared.symbol.Connective.TheVariants.{And, Or}
use Rattle.formula.specs.Tokens.{Tok, symbol, name, tokens_of}
use Rattle.formula.specs.Trees.{Acts, all, none, silent, named, complement, intersection, union, Tree, TRUE, FALSE, NOT, AND, OR, short, path}

-- NOT binds closest, then AND, then OR
pub data Level : Type 0 where
  or_level : Level
  and_level : Level
  tight : Level

-- In braces. Chains of AND and of OR group from the left: what stands before the last AND or OR of
-- a chain is one formula.
pub data ActionFormula : Level → List Tok → Acts → List Tok → Type 0 where
  no_or : {ts rest : List Tok} {c : Acts} → ActionFormula and_level ts c rest →
      ActionFormula or_level ts c rest
  with_or : {ts us rest : List Tok} {c d : Acts} →
      ActionFormula or_level ts c (symbol (connective Or) ∷ us) →
      ActionFormula and_level us d rest → ActionFormula or_level ts (union c d) rest
  no_and : {ts rest : List Tok} {c : Acts} → ActionFormula tight ts c rest →
      ActionFormula and_level ts c rest
  with_and : {ts us rest : List Tok} {c d : Acts} →
      ActionFormula and_level ts c (symbol (connective And) ∷ us) →
      ActionFormula tight us d rest → ActionFormula and_level ts (intersection c d) rest
  true_word : {rest : List Tok} → ActionFormula tight (symbol True ∷ rest) all rest
  false_word : {rest : List Tok} → ActionFormula tight (symbol False ∷ rest) none rest
  tau_word : {rest : List Tok} → ActionFormula tight (symbol Tau ∷ rest) silent rest
  by_name : {w : List ℕ} {rest : List Tok} → ActionFormula tight (name w ∷ rest) (named w) rest
  negated : {ts rest : List Tok} {c : Acts} → ActionFormula tight ts c rest →
      ActionFormula tight (symbol Not ∷ ts) (complement c) rest
  grouped : {ts rest : List Tok} {c : Acts} →
      ActionFormula or_level ts c (symbol (signed Close) ∷ rest) →
      ActionFormula tight (symbol (signed Open) ∷ ts) c rest

-- whether a formula can begin here
abbrev pub opens : Sign → Bool
opens Open = true
opens Close = false
opens BracketOpen = false
opens BracketClose = false
opens BraceOpen = false
opens BraceClose = false

abbrev pub begins_with : Symbol → Bool
begins_with (signed s) = opens s
begins_with (connective c) = false
begins_with True = true
begins_with False = true
begins_with Tau = false
begins_with Not = true
begins_with (Short o) = true
begins_with (Path q) = true
begins_with (Between l) = false

abbrev pub begins : List Tok → Bool
begins [] = false
begins (name w ∷ ts) = false
begins (symbol m ∷ ts) = begins_with m

mutual
  pub data Derives : Level → List Tok → Tree → List Tok → Type 0 where
    no_or : {ts rest : List Tok} {t : Tree} → Derives and_level ts t rest →
        Derives or_level ts t rest
    with_or : {ts us rest : List Tok} {t u : Tree} →
        Derives or_level ts t (symbol (connective Or) ∷ us) → Derives and_level us u rest →
        Derives or_level ts (OR t u) rest
    no_and : {ts rest : List Tok} {t : Tree} → Derives tight ts t rest → Derives and_level ts t rest
    with_and : {ts us rest : List Tok} {t u : Tree} →
        Derives and_level ts t (symbol (connective And) ∷ us) → Derives tight us u rest →
        Derives and_level ts (AND t u) rest
    true_word : {rest : List Tok} → Derives tight (symbol True ∷ rest) TRUE rest
    false_word : {rest : List Tok} → Derives tight (symbol False ∷ rest) FALSE rest
    negated : {ts rest : List Tok} {t : Tree} → Derives tight ts t rest →
        Derives tight (symbol Not ∷ ts) (NOT t) rest
    grouped : {ts rest : List Tok} {t : Tree} →
        Derives or_level ts t (symbol (signed Close) ∷ rest) →
        Derives tight (symbol (signed Open) ∷ ts) t rest
    one_part : {o : Operator} {ts rest : List Tok} {c : Acts} {t : Tree} →
        DerivesPart tight ts c t rest → Derives tight (symbol (Short o) ∷ ts) (short o c t) rest
    two_parts : {q : Quantifier} {l : Link} {ts us rest : List Tok} {c d : Acts} {t u : Tree} →
        DerivesPart or_level ts c t (symbol (Between l) ∷ us) →
        DerivesPart or_level us d u (symbol (signed BracketClose) ∷ rest) →
        Derives tight (symbol (Path q) ∷ symbol (signed BracketOpen) ∷ ts) (path q l c t d u) rest

  -- Braces, a formula, or both. After braces a formula is read whenever one can begin. Left-out
  -- braces mean {TRUE}, a left-out formula TRUE.
  pub data DerivesPart : Level → List Tok → Acts → Tree → List Tok → Type 0 where
    formula_alone : {l : Level} {ts rest : List Tok} {t : Tree} → Derives l ts t rest →
        DerivesPart l ts all t rest
    braces_alone : {l : Level} {ts rest : List Tok} {c : Acts} →
        ActionFormula or_level ts c (symbol (signed BraceClose) ∷ rest) → IsFalse (begins rest) →
        DerivesPart l (symbol (signed BraceOpen) ∷ ts) c TRUE rest
    braces_then : {l : Level} {ts us rest : List Tok} {c : Acts} {t : Tree} →
        ActionFormula or_level ts c (symbol (signed BraceClose) ∷ us) → Derives l us t rest →
        DerivesPart l (symbol (signed BraceOpen) ∷ ts) c t rest

-- A text of the grammar: its tokens are a formula as a whole.
pub record Parses (text : List ℕ) (t : Tree) : Type 0 where
  pub tokens : List Tok
  pub lexed : tokens_of text ≡ Some tokens
  pub whole : Derives or_level tokens t []
