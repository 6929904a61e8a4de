-- How the reader goes through the tokens. Grammar.antt says what a formula is; that the two agree
-- is proved. The symbols that signs and connectives are stand as `signed` and `connective`, since
-- `Sign` and `Connective` are types.
use Rattle.std.specs.Prelude.{◌≡◌, ℕ, zero, suc, ◌+◌, ◌*◌, ◌<◌, Bool, true, false, List, [], ◌∷◌, length, Some, None, Option, ◌==◌, if◌then◌else◌}
use Rattle.formula.specs.declared.symbol.Quantifier.{Quantifier}
use Rattle.formula.specs.declared.symbol.Link.{Link}
use Rattle.formula.specs.declared.symbol.Symbol.{Symbol}
use Rattle.formula.specs.declared.symbol.Symbol.TheVariants.{True, False, Tau, Not, Short, Path, Between, Sign as signed, Connective as connective}
use Rattle.formula.specs.declared.symbol.Sign.{Sign}
use Rattle.formula.specs.declared.symbol.Sign.TheVariants.{Open, Close, BracketOpen, BracketClose, BraceOpen, BraceClose}
use Rattle.formula.specs.declared.symbol.Connective.{Connective}
use Rattle.formula.specs.declared.symbol.Connective.TheVariants.{And, Or}
use Rattle.formula.specs.Tokens.{Tok, symbol, name}
use Rattle.formula.specs.Trees.{Acts, all, none, silent, named, complement, intersection, union, Tree, TRUE, FALSE, NOT, AND, OR, short, path}
use Rattle.formula.specs.Grammar.{opens, begins}

-- the number of a sign, to tell two apart
abbrev pub code : Sign → ℕ
code Open = 0
code Close = 1
code BracketOpen = 2
code BracketClose = 3
code BraceOpen = 4
code BraceClose = 5

abbrev pub is : Sign → Symbol → Bool
is s (signed t) = code t == code s
is s (connective c) = false
is s True = false
is s False = false
is s Tau = false
is s Not = false
is s (Short o) = false
is s (Path q) = false
is s (Between l) = false

-- what follows a sign, if it stands first
abbrev pub past_sign : Sign → List Tok → Option (List Tok)
past_sign s [] = None
past_sign s (name w ∷ ts) = None
past_sign s (symbol m ∷ ts) = if is s m then Some ts else None

-- the same for AND and OR
abbrev pub same : Connective → Connective → Bool
same And And = true
same And Or = false
same Or And = false
same Or Or = true

abbrev pub is_connective : Connective → Symbol → Bool
is_connective c (signed s) = false
is_connective c (connective d) = same d c
is_connective c True = false
is_connective c False = false
is_connective c Tau = false
is_connective c Not = false
is_connective c (Short o) = false
is_connective c (Path q) = false
is_connective c (Between l) = false

abbrev pub past_connective : Connective → List Tok → Option (List Tok)
past_connective c [] = None
past_connective c (name w ∷ ts) = None
past_connective c (symbol m ∷ ts) = if is_connective c m then Some ts else None

abbrev pub if_there : {X : Type 0} → Option (List Tok) → (List Tok → X) → X → X
if_there None f x = x
if_there (Some rest) f x = f rest

-- what was read, and what follows it
abbrev pub Got : Type 0 → Type 0
Got X = Option (X × List Tok)

abbrev pub and_then : {X Y : Type 0} → Got X → (X → List Tok → Got Y) → Got Y
and_then None f = None
and_then (Some p) f = f p.0 p.1

-- the functions of the reader: a chain of OR, or what goes on after its beginning, and so of AND
pub data Stage (X : Type 0) : Type 0 where
  OrLevel : Stage X
  OrMore : X → Stage X
  AndLevel : Stage X
  AndMore : X → Stage X
  Tight : Stage X

-- how each stage reads tokens
abbrev pub Reader : Type 0 → Type 0
Reader X = Stage X → List Tok → Got X

-- what AND and OR make, and how a tight formula is read with a reader for what it holds
pub record Rules (X : Type 0) : Type 0 where
  pub both : X → X → X
  pub either : X → X → X
  pub tightly : Reader X → List Tok → Got X

-- what tokens read as at each stage, in at most n steps
unfoldable pub read : {X : Type 0} → Rules X → ℕ → Stage X → List Tok → Got X
read R zero l ts = None
read R (suc n) OrLevel ts = and_then (read R n AndLevel ts) (λ x rest. read R n (OrMore x) rest)
read R (suc n) (OrMore x) ts =
    if_there (past_connective Or ts)
    (λ us. and_then (read R n AndLevel us) (λ y rest. read R n (OrMore (R.either x y)) rest))
    (Some (x, ts))
read R (suc n) AndLevel ts = and_then (read R n Tight ts) (λ x rest. read R n (AndMore x) rest)
read R (suc n) (AndMore x) ts =
    if_there (past_connective And ts)
    (λ us. and_then (read R n Tight us) (λ y rest. read R n (AndMore (R.both x y)) rest))
    (Some (x, ts))
read R (suc n) Tight ts = R.tightly (read R n) ts

abbrev pub rank : {X : Type 0} → Stage X → ℕ
rank OrLevel = 3
rank (OrMore x) = 1
rank AndLevel = 2
rank (AndMore x) = 1
rank Tight = 1

-- the tokens read as g, however many steps are granted beyond those that their number asks
abbrev pub Reads : {X : Type 0} → Rules X → Stage X → List Tok → Got X → Type 0
Reads R l ts g = (n : ℕ) → 3 * length ts + rank l < n → read R n l ts ≡ g

-- a sign after what was read
abbrev pub ended_by : {X : Type 0} → Sign → X → List Tok → Got X
ended_by s x ts = if_there (past_sign s ts) (λ rest. Some (x, rest)) None

-- in parentheses
abbrev pub in_group : {X : Type 0} → Sign → Got X → Got X
in_group s g = if opens s then and_then g (ended_by Close) else None

-- action formulas
abbrev pub action_at : Reader Acts → Symbol → List Tok → Got Acts
action_at r (signed s) ts = in_group s (r OrLevel ts)
action_at r (connective c) ts = None
action_at r True ts = Some (all, ts)
action_at r False ts = Some (none, ts)
action_at r Tau ts = Some (silent, ts)
action_at r Not ts = and_then (r Tight ts) (λ c rest. Some (complement c, rest))
action_at r (Short o) ts = None
action_at r (Path q) ts = None
action_at r (Between l) ts = None

abbrev pub action : Reader Acts → List Tok → Got Acts
action r [] = None
action r (name w ∷ ts) = Some (named w, ts)
action r (symbol m ∷ ts) = action_at r m ts

abbrev pub action_rules : Rules Acts
action_rules = record { both = intersection; either = union; tightly = action }

-- what stands in braces, after the first of them
unfoldable pub in_braces : List Tok → Got Acts
in_braces ts = and_then (read action_rules (3 * length ts + 4) OrLevel ts) (ended_by BraceClose)

-- parts, by a reader for their formula
abbrev pub with_formula : (List Tok → Got Tree) → Acts → List Tok → Got (Acts × Tree)
with_formula r c ts = and_then (r ts) (λ t rest. Some ((c, t), rest))

abbrev pub after_braces : (List Tok → Got Tree) → Acts → List Tok → Got (Acts × Tree)
after_braces r c ts = if begins ts then with_formula r c ts else Some ((c, TRUE), ts)

abbrev pub part : (List Tok → Got Tree) → List Tok → Got (Acts × Tree)
part r ts =
    if_there (past_sign BraceOpen ts) (λ us. and_then (in_braces us) (after_braces r))
    (with_formula r all ts)

-- the word between two parts
abbrev pub link_of : Symbol → Option Link
link_of (signed s) = None
link_of (connective c) = None
link_of True = None
link_of False = None
link_of Tau = None
link_of Not = None
link_of (Short o) = None
link_of (Path q) = None
link_of (Between l) = Some l

abbrev pub linked : Option Link → List Tok → Got Link
linked None ts = None
linked (Some l) ts = Some (l, ts)

abbrev pub link : List Tok → Got Link
link [] = None
link (name w ∷ ts) = None
link (symbol m ∷ ts) = linked (link_of m) ts

abbrev pub second_part : (List Tok → Got Tree) → Quantifier → Acts × Tree → Link → List Tok →
    Got Tree
second_part r q p l ts =
    and_then (part r ts) (λ p' rest. ended_by BracketClose (path q l p.0 p.1 p'.0 p'.1) rest)

abbrev pub two_parts : (List Tok → Got Tree) → Quantifier → List Tok → Got Tree
two_parts r q ts = and_then (part r ts) (λ p us. and_then (link us) (second_part r q p))

-- formulas
abbrev pub formula_at : Reader Tree → Symbol → List Tok → Got Tree
formula_at r (signed s) ts = in_group s (r OrLevel ts)
formula_at r (connective c) ts = None
formula_at r True ts = Some (TRUE, ts)
formula_at r False ts = Some (FALSE, ts)
formula_at r Tau ts = None
formula_at r Not ts = and_then (r Tight ts) (λ t rest. Some (NOT t, rest))
formula_at r (Short o) ts = and_then (part (r Tight) ts) (λ p rest. Some (short o p.0 p.1, rest))
formula_at r (Path q) ts = if_there (past_sign BracketOpen ts) (two_parts (r OrLevel) q) None
formula_at r (Between l) ts = None

abbrev pub formula : Reader Tree → List Tok → Got Tree
formula r [] = None
formula r (name w ∷ ts) = None
formula r (symbol m ∷ ts) = formula_at r m ts

abbrev pub formula_rules : Rules Tree
formula_rules = record { both = AND; either = OR; tightly = formula }

-- the whole text, with nothing after it
abbrev pub nothing_after : Tree → List Tok → Option Tree
nothing_after t [] = Some t
nothing_after t (x ∷ ts) = None

abbrev pub whole_at : Got Tree → Option Tree
whole_at None = None
whole_at (Some p) = nothing_after p.0 p.1

unfoldable pub tree_of : List Tok → Option Tree
tree_of ts = whole_at (read formula_rules (3 * length ts + 4) OrLevel ts)
