-- How each stage reads, from how its parts read.
use Rattle.std.proofs.Common.{◌≡◌, ℕ, zero, suc, ◌+◌, ◌*◌, ◌<◌, ◌≤◌, true, cond, eqb, List, [], ◌∷◌, length, Some, None, Option, sym, refl, ap, ◌∙◌, arith}
use Rattle.std.proofs.lemmas.Option.{cond_some, none-some}
use Rattle.std.proofs.lemmas.Bool.{eqb-true, false≢true}
use Rattle.formula.specs.declared.symbol.Symbol.{Symbol}
use Rattle.formula.specs.declared.symbol.Symbol.TheVariants.{True, False, Tau, Not, Short, Path, Between, Sign as signed, Connective as connective}
use Rattle.formula.specs.declared.symbol.Sign.{Sign}
use Rattle.formula.specs.declared.symbol.Sign.TheVariants.{Open, Close, BracketOpen, BracketClose, BraceOpen, BraceClose}
use Rattle.formula.specs.declared.symbol.Connective.{Connective}
use Rattle.formula.specs.declared.symbol.Connective.TheVariants.{And, Or}
use Rattle.formula.specs.declared.built.Level.TheVariants as level
use Rattle.formula.specs.Levels.{operand, stage, joined}
use Rattle.formula.specs.Tokens.{Tok, symbol, name}
use Rattle.formula.specs.Reading.{code, is, past_sign, same, is_connective, past_connective, if_there, Got, and_then, Stage, OrLevel, OrMore, AndLevel, AndMore, Tight, Rules, read, rank, Reads}

pub no_way : {A : Type 0} (B : Type 0) {x : A} → ◌≡◌ {A = Option A} None (Some x) → B
no_way B e = absurd (none-some _ e)

-- a sign is told by its number
abbrev decode : ℕ → Sign
decode n =
    cond (eqb n 0) Open
    (cond (eqb n 1) Close
    (cond (eqb n 2) BracketOpen
    (cond (eqb n 3) BracketClose
    (cond (eqb n 4) BraceOpen BraceClose))))

decoded : (s : Sign) → decode (code s) ≡ s
decoded Open = refl
decoded Close = refl
decoded BracketOpen = refl
decoded BracketClose = refl
decoded BraceOpen = refl
decoded BraceClose = refl

is_out : (s : Sign) (m : Symbol) → is s m ≡ true → m ≡ signed s
is_out s (signed t) e = ap signed (sym (decoded t) ∙ ap decode (eqb-true (code t) (code s) e) ∙ decoded s)
is_out s (connective c) e = absurd (false≢true e)
is_out s True e = absurd (false≢true e)
is_out s False e = absurd (false≢true e)
is_out s Tau e = absurd (false≢true e)
is_out s Not e = absurd (false≢true e)
is_out s (Short o) e = absurd (false≢true e)
is_out s (Path q) e = absurd (false≢true e)
is_out s (Between l) e = absurd (false≢true e)

pub past_sign_out : (s : Sign) (ts rest : List Tok) → past_sign s ts ≡ Some rest → ts ≡ symbol (signed s) ∷ rest
past_sign_out s [] rest e = no_way _ e
past_sign_out s (name w ∷ ts) rest e = no_way _ e
past_sign_out s (symbol m ∷ ts) rest e = let h = cond_some (is s m) ts rest e in ap (λ x. symbol x ∷ ts) (is_out s m h.0) ∙ ap (λ x. symbol (signed s) ∷ x) h.1

-- and so for a connective
same_out : (c d : Connective) → same d c ≡ true → d ≡ c
same_out And And e = refl
same_out And Or e = absurd (false≢true e)
same_out Or And e = absurd (false≢true e)
same_out Or Or e = refl

is_connective_out : (c : Connective) (m : Symbol) → is_connective c m ≡ true → m ≡ connective c
is_connective_out c (signed s) e = absurd (false≢true e)
is_connective_out c (connective d) e = ap connective (same_out c d e)
is_connective_out c True e = absurd (false≢true e)
is_connective_out c False e = absurd (false≢true e)
is_connective_out c Tau e = absurd (false≢true e)
is_connective_out c Not e = absurd (false≢true e)
is_connective_out c (Short o) e = absurd (false≢true e)
is_connective_out c (Path q) e = absurd (false≢true e)
is_connective_out c (Between l) e = absurd (false≢true e)

pub past_connective_out : (c : Connective) (ts rest : List Tok) → past_connective c ts ≡ Some rest → ts ≡ symbol (connective c) ∷ rest
past_connective_out c [] rest e = no_way _ e
past_connective_out c (name w ∷ ts) rest e = no_way _ e
past_connective_out c (symbol m ∷ ts) rest e =
    let h = cond_some (is_connective c m) ts rest e in ap (λ x. symbol x ∷ ts) (is_connective_out c m h.0) ∙ ap (λ x. symbol (connective c) ∷ x) h.1

pub past_shorter : (c : Connective) (ts rest : List Tok) → past_connective c ts ≡ Some rest → length ts ≡ suc (length rest)
past_shorter c ts rest e = ap length (past_connective_out c ts rest e)

-- a step that was taken: what it went on from
pub then_out : {X Y : Type 0} (o : Got X) (f : X → List Tok → Got Y) {y : Y × List Tok} → and_then o f ≡ Some y → (x : X) × (rest : List Tok) × (o ≡ Some (x, rest)) × (f x rest ≡ Some y)
then_out None f e = no_way _ e
then_out (Some p) f e = (p.0, p.1, refl, e)

-- what goes on after an operand
abbrev pub more : {X : Type 0} → Connective → X → Stage X
more Or = OrMore
more And = AndMore

pub rank_small : {X : Type 0} (s : Stage X) → (1 ≤ rank s) × (rank s ≤ 3)
rank_small OrLevel = (omega arith, omega arith)
rank_small (OrMore x) = (omega arith, omega arith)
rank_small AndLevel = (omega arith, omega arith)
rank_small (AndMore x) = (omega arith, omega arith)
rank_small Tight = (omega arith, omega arith)

module _ {X : Type 0} (R : Rules X) where
  -- a chain, and what goes on after x, one step on
  starts : (j : Connective) (n : ℕ) (ts : List Tok) → read R (suc n) (stage (level.Chain j)) ts ≡ and_then (read R n (stage (operand j)) ts) (λ x rest. read R n (more j x) rest)
  unfolding read
  starts Or n ts = refl
  starts And n ts = refl

  goes : (j : Connective) (n : ℕ) (x : X) (ts : List Tok) →
      read R (suc n) (more j x) ts ≡ if_there (past_connective j ts) (λ us. and_then (read R n (stage (operand j)) us) (λ y rest. read R n (more j (joined R j x y)) rest)) (Some (x, ts))
  unfolding read
  goes Or n x ts = refl
  goes And n x ts = refl

  higher : (j : Connective) → rank {X = X} (stage (level.Chain j)) ≡ rank {X = X} (stage (operand j)) + 1
  higher Or = refl
  higher And = refl

  low : (j : Connective) (x : X) → rank (more j x) ≡ 1
  low Or x = refl
  low And x = refl

  pub none : (j : Connective) (ts : List Tok) → Reads R (stage (operand j)) ts None → Reads R (stage (level.Chain j)) ts None
  none j ts a zero h = absurd (omega arith)
  none j ts a (suc n) h = starts j n ts ∙ ap (λ g. and_then g (λ x rest. read R n (more j x) rest)) (a n (omega (arith, higher j)))

  pub some : (j : Connective) (ts rest : List Tok) (x : X) (g : Got X) → Reads R (stage (operand j)) ts (Some (x, rest)) → length rest ≤ length ts → Reads R (more j x) rest g →
      Reads R (stage (level.Chain j)) ts g
  some j ts rest x g a l m zero h = absurd (omega arith)
  some j ts rest x g a l m (suc n) h =
      starts j n ts ∙ ap (λ o. and_then o (λ y rest. read R n (more j y) rest)) (a n (omega (arith, higher j)))
      ∙ m n (omega (arith, higher j, low j x, (rank_small {X = X} (stage (operand j))).0))

  -- no further operand, or one
  pub stop : (j : Connective) (x : X) (ts : List Tok) → past_connective j ts ≡ None → Reads R (more j x) ts (Some (x, ts))
  stop j x ts e zero h = absurd (omega arith)
  stop j x ts e (suc n) h =
      goes j n x ts ∙ ap (λ o. if_there o (λ us. and_then (read R n (stage (operand j)) us) (λ y rest. read R n (more j (joined R j x y)) rest)) (Some (x, ts))) e

  pub no_more : (j : Connective) (x : X) (ts us : List Tok) → past_connective j ts ≡ Some us → Reads R (stage (operand j)) us None → Reads R (more j x) ts None
  no_more j x ts us e a zero h = absurd (omega arith)
  no_more j x ts us e a (suc n) h =
      goes j n x ts ∙ ap (λ o. if_there o (λ vs. and_then (read R n (stage (operand j)) vs) (λ y rest. read R n (more j (joined R j x y)) rest)) (Some (x, ts))) e
      ∙ ap (λ o. and_then o (λ y rest. read R n (more j (joined R j x y)) rest))
      (a n (omega (arith, past_shorter j ts us e, low j x, (rank_small {X = X} (stage (operand j))).1)))

  pub one_more : (j : Connective) (x y : X) (ts us rest : List Tok) (g : Got X) → past_connective j ts ≡ Some us → Reads R (stage (operand j)) us (Some (y, rest)) →
      length rest ≤ length us → Reads R (more j (joined R j x y)) rest g → Reads R (more j x) ts g
  one_more j x y ts us rest g e a l m zero h = absurd (omega arith)
  one_more j x y ts us rest g e a l m (suc n) h =
      let less = past_shorter j ts us e in
      goes j n x ts ∙ ap (λ o. if_there o (λ vs. and_then (read R n (stage (operand j)) vs) (λ z rest. read R n (more j (joined R j x z)) rest)) (Some (x, ts))) e
      ∙ ap (λ o. and_then o (λ z rest. read R n (more j (joined R j x z)) rest)) (a n (omega (arith, less, low j x, (rank_small {X = X} (stage (operand j))).1)))
      ∙ m n (omega (arith, less, low j x, low j (joined R j x y)))

  -- a tight formula, by its rule
  pub tight-by : (ts : List Tok) (g : Got X) → ((n : ℕ) → 3 * length ts < n → R.tightly (read R n) ts ≡ g) → Reads R Tight ts g
  unfolding read
  tight-by ts g f zero h = absurd (omega arith)
  tight-by ts g f (suc n) h = f n (omega arith)
