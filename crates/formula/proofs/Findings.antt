-- What a function of the reader finds, from what the functions that it calls find.
use Rattle.std.proofs.Common.{◌≡◌, ℕ, ◌+◌, ◌*◌, ◌<◌, ◌≤◌, List, ◌∷◌, length, Some, None, Option, sym, ap, ◌∙◌, subst, arith}
use Rattle.std.specs.Borrow.{Bor}
use Rattle.formula.specs.declared.built.Found.{Found}
use Rattle.formula.specs.declared.symbol.Connective.{Connective}
use Rattle.formula.specs.declared.built.Level.TheVariants as level
use Rattle.formula.specs.declared.cursor.Cursor.{Cursor}
use Rattle.formula.specs.declared.token.Token.{Token}
use Rattle.formula.specs.Chaining.{More, ends, breaks, goes_on, Chain, fails, begins}
use Rattle.formula.specs.Tokens.{Tok}
use Rattle.formula.specs.Places.{unread, ahead, moved, Past}
use Rattle.formula.specs.Finding.{Settles, Finds}
use Rattle.formula.specs.Levels.{operand, stage, joined}
use Rattle.formula.specs.Reading.{past_connective, Got, Stage, Tight, Rules, read, rank, Reads}
use Rattle.formula.specs.Vocabulary.{Vocabulary, vocabulary}
use Rattle.formula.proofs.Stages.{more, none, some, stop, no_more, one_more, tight-by, past_shorter}

-- a chain, from its operands
module _ {X V S : Type 0} (R : Rules X) (j : Connective) (c : Cursor) (Stands : S → S → X → V → Type 0) (Operand : Bor (List Token) → S → Option (Found V) → S → Type 0)
    (Join : V → V → S → V → S → Type 0)
    (operands : (at : Bor (List Token)) (s : S) (r : Option (Found V)) (s' : S) → Operand at s r s' →
    Finds (Stands s s') (moved c at) (rank (stage {X = X} (operand j))) (λ n. read R n (stage (operand j))) r)
    (joins : (x y : X) (s t u u' : S) (v w z : V) → Stands s t x v → Stands t u y w → Join v w u z u' → Stands s u' (joined R j x y) z) where
  abbrev At : S → S → Stage X → Bor (List Token) → Option (Found V) → Type 0
  At s s' l at r = Finds (Stands s s') (moved c at) (rank l) (λ n. read R n l) r

  abbrev below : Stage X
  below = stage (operand j)

  first : (s s' : S) (x : X) (at mid : Bor (List Token)) → Reads R below (unread at) (Some (x, unread mid)) → length (unread mid) ≤ length (unread at) →
      (r : Option (Found V)) → At s s' (more j x) mid r → At s s' (stage (level.Chain j)) at r
  first s s' x at mid a h None k = some R j _ _ x None a h k
  first s s' x at mid a h (Some y) k = (k.0, some R j _ _ x _ a h k.1, k.2, omega (arith, h, k.3))

  next : (s s' : S) (x y : X) (at on mid : Bor (List Token)) → past_connective j (unread at) ≡ Some (unread on) → Reads R below (unread on) (Some (y, unread mid)) →
      length (unread mid) ≤ length (unread on) → (r : Option (Found V)) → At s s' (more j (joined R j x y)) mid r → At s s' (more j x) at r
  next s s' x y at on mid e a h None k = one_more R j x y _ _ _ None e a h k
  next s s' x y at on mid e a h (Some z) k = (k.0, one_more R j x y _ _ _ _ e a h k.1, k.2, omega (arith, past_shorter j (unread at) (unread on) e, h, k.3))

  goes : (x : X) (s₀ s : S) (left : Found V) (r : Option (Found V)) (s' : S) → Stands s₀ s x left.value →
      More Operand Join j left s r s' → At s₀ s' (more j x) left.rest r
  goes x s₀ s left r s' k (ends e) = (x, stop R j x _ e, k, omega arith)
  goes x s₀ s left r s' k (breaks {next = on} e o) = no_more R j x _ _ e (operands on s None s' o)
  goes x s₀ s left r s' k (goes_on {right = right} {t = t} {u = u} {next = on} {v = v} e o i m) =
      let d = operands on s (Some right) t o in
      next s₀ s' x d.0 left.rest on right.rest e d.1 d.3 r
      (goes (joined R j x d.0) s₀ u (record { value = v; rest = right.rest }) r s' (joins x d.0 s₀ s t u left.value right.value v k d.2 i) m)

  pub level_chain : (s s' : S) (r : Option (Found V)) → Chain Operand Join j c.tokens s r s' →
      Finds (Stands s s') c (rank (stage {X = X} (level.Chain j))) (λ n. read R n (stage (level.Chain j))) r
  level_chain s s' r (fails o) = none R j _ (operands c.tokens s None s' o)
  level_chain s s' r (begins {t = t} {left = left} o m) =
      let d = operands c.tokens s (Some left) t o in
      first s s' d.0 c.tokens left.rest d.1 d.3 r (goes d.0 s t left r s' d.2 m)

-- a connective where these tokens are left
pub past_there : (c k : Cursor) (rest : Bor (List Token)) (d : Connective) (r : Option (Bor (List Token))) → k ≡ moved c rest → Past (ahead k) (past_connective d (ahead k)) r →
    Past (unread rest) (past_connective d (unread rest)) r
past_there c k rest d r e p = subst (λ x. Past (ahead x) (past_connective d (ahead x)) r) e p

module _ {X V : Type 0} (Stands : Vocabulary → X → V → Type 0) where
  abbrev pub Finds_at : Cursor → ℕ → (ℕ → List Tok → Got X) → Option (Found V) → Type 0
  Finds_at c b F r = Finds (Stands (vocabulary c.names)) c b F r

  -- nothing was found, where a `?` returns
  pub none_found : (c : Cursor) (b : ℕ) (F : ℕ → List Tok → Got X) (r : Option (Found V)) → r ≡ None → Settles b (ahead c) F None → Finds_at c b F r
  none_found c b F r e k = subst (Finds_at c b F) (sym e) k

  -- what is found where less is left, where the steps from here lead there
  pub led : (c k : Cursor) (rest : Bor (List Token)) (b b' : ℕ) (F F' : ℕ → List Tok → Got X) → k ≡ moved c rest → length (unread rest) ≤ length (ahead c) → b' ≤ b →
      ((n : ℕ) → 3 * length (ahead c) + b < n → F n (ahead c) ≡ F' n (unread rest)) → (r : Option (Found V)) → Finds_at k b' F' r → Finds_at c b F r
  led c k rest b b' F F' p h l e r f = from r (subst (λ x. Finds_at x b' F' r) p f)
    where
      from : (r : Option (Found V)) → Finds_at (moved c rest) b' F' r → Finds_at c b F r
      from None f = λ n m. e n m ∙ f n (omega (arith, h))
      from (Some y) f = (f.0, (λ n m. e n m ∙ f.1 n (omega (arith, h))), f.2, omega (arith, h, f.3))

  -- a tight formula, by its first token
  pub tight-from : (R : Rules X) (c k : Cursor) (t : Tok) (rest : Bor (List Token)) → k ≡ moved c rest → ahead c ≡ t ∷ unread rest → (r : Option (Found V)) →
      Finds_at k 3 (λ n ts. R.tightly (read R n) (t ∷ ts)) r → Finds_at c 1 (λ n. read R n Tight) r
  tight-from R c k t rest p e r f = from r (subst (λ x. Finds_at x 3 (λ n ts. R.tightly (read R n) (t ∷ ts)) r) p f)
    where
      from : (r : Option (Found V)) → Finds_at (moved c rest) 3 (λ n ts. R.tightly (read R n) (t ∷ ts)) r → Finds_at c 1 (λ n. read R n Tight) r
      from None f = tight-by R (ahead c) None (λ n h. ap (R.tightly (read R n)) e ∙ f n (omega (arith, ap length e)))
      from (Some y) f =
          (f.0, tight-by R (ahead c) _ (λ n h. ap (R.tightly (read R n)) e ∙ f.1 n (omega (arith, ap length e))), f.2, omega (arith, ap length e, f.3))
