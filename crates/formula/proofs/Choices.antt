-- The functions that read action formulas, step by step.
use Rattle.std.proofs.Common.{◌≡◌, ℕ, ◌+◌, ◌*◌, not, ◌&&◌, ◌||◌, ltb, ◌⊎◌, List, ◌∷◌, length, Some, None, Option, sym, ap, ◌∙◌, subst, inl, inr, arith}
use Rattle.std.specs.Borrow.{Bor}
use Rattle.base.specs.Sets.{holds}
use Rattle.base.specs.declared.action_set.ActionSet.{ActionSet}
use Rattle.formula.specs.declared.built.Found.{Found}
use Rattle.formula.specs.declared.symbol.Connective.{Connective}
use Rattle.formula.specs.declared.symbol.Connective.TheVariants.{And, Or}
use Rattle.formula.specs.declared.cursor.Cursor.{Cursor}
use Rattle.formula.specs.declared.symbol.Link.{Link}
use Rattle.formula.specs.declared.symbol.Symbol.{Symbol}
use Rattle.formula.specs.declared.symbol.Symbol.TheVariants.{Short, Path, Between, Connective as connective}
use Rattle.formula.specs.declared.symbol.Operator.{Operator}
use Rattle.formula.specs.declared.symbol.Quantifier.{Quantifier}
use Rattle.formula.specs.declared.symbol.Sign.TheVariants.{BraceClose}
use Rattle.formula.specs.declared.token.Token.{Token}
use Rattle.formula.specs.declared.token.Token.TheVariants as token
use Rattle.formula.specs.Choosing.{set_of, IsSet, ChoosesBy, Chooses}
use Rattle.formula.specs.Finding.{Settles}
use Rattle.formula.specs.Levels.{combined}
use Rattle.formula.specs.Levels as levels
use Rattle.formula.specs.Places.{unread, ahead, moved, Closed}
use Rattle.formula.specs.Reading.{past_sign, if_there, ended_by, in_braces, Got, Reader, and_then, OrLevel, Tight, Reads, action_at, action_rules}
use Rattle.formula.specs.Tokens.{Tok, symbol, tok}
use Rattle.formula.specs.Trees.{Acts, complement}
use Rattle.formula.specs.Vocabulary.{Vocabulary, vocabulary}
use Rattle.formula.proofs.Findings as findings

-- in braces
pub braces_none : (ts : List Tok) → Reads action_rules OrLevel ts None → in_braces ts ≡ None
unfolding in_braces
braces_none ts a = ap (λ g. and_then g (ended_by BraceClose)) (a (3 * length ts + 4) (omega arith))

braces_open : (ts us : List Tok) (c : Acts) → Reads action_rules OrLevel ts (Some (c, us)) → past_sign BraceClose us ≡ None → in_braces ts ≡ None
unfolding in_braces
braces_open ts us c a e = ap (λ g. and_then g (ended_by BraceClose)) (a (3 * length ts + 4) (omega arith)) ∙ ap (λ p. if_there {X = Got Acts} p (λ rest. Some (c, rest)) None) e

braces_some : (ts us rest : List Tok) (c : Acts) → Reads action_rules OrLevel ts (Some (c, us)) → past_sign BraceClose us ≡ Some rest → in_braces ts ≡ Some (c, rest)
unfolding in_braces
braces_some ts us rest c a e = ap (λ g. and_then g (ended_by BraceClose)) (a (3 * length ts + 4) (omega arith)) ∙ ap (λ p. if_there {X = Got Acts} p (λ vs. Some (c, vs)) None) e

pub braces_closed : (c : Cursor) (y : Found ActionSet) → Chooses c OrLevel (Some y) → (r : Option (Found ActionSet)) → Closed BraceClose y r → ChoosesBy c (λ r ts. in_braces ts) r
braces_closed c y d None e = λ n h. braces_open _ _ d.0 d.1 e
braces_closed c y d (Some z) e =
    (d.0, (λ n h. braces_some _ _ _ d.0 d.1 e.0), subst (IsSet (vocabulary c.names) d.0) (sym e.2) d.2, omega (arith, d.3, e.1))

-- an operator is no action formula
pub no_action : (r : Reader Acts) (m : Symbol) (ts : List Tok) → ((x : Operator) × m ≡ Short x) ⊎ (((x : Quantifier) × m ≡ Path x) ⊎ (((x : Link) × m ≡ Between x) ⊎ ((x : Connective) × m ≡ connective x))) → action_at r m ts ≡ None
no_action r m ts (inl p) = ap (λ k. action_at r k ts) p.1
no_action r m ts (inr (inl p)) = ap (λ k. action_at r k ts) p.1
no_action r m ts (inr (inr (inl p))) = ap (λ k. action_at r k ts) p.1
no_action r m ts (inr (inr (inr p))) = ap (λ k. action_at r k ts) p.1

module _ (names : Vocabulary) where
  pub joined : (j : Connective) (c d : Acts) (l r u : ActionSet) → IsSet names c l → IsSet names d r → ((a : ℕ) → holds u a ≡ combined j (holds l a) (holds r a)) →
      IsSet names (levels.joined action_rules j c d) u
  joined Or c d l r u p q h a = h a ∙ ap (λ b. b || holds r a) (p a) ∙ ap (λ b. set_of names.labels c a || b) (q a)
  joined And c d l r u p q h a = h a ∙ ap (λ b. b && holds r a) (p a) ∙ ap (λ b. set_of names.labels c a && b) (q a)

  pub other : (c : Acts) (l u : ActionSet) → IsSet names c l → ((a : ℕ) → holds u a ≡ (ltb a 64 && not (holds l a))) → IsSet names (complement c) u
  other c l u p h a = h a ∙ ap (λ b. ltb a 64 && not b) (p a)

pub none-at : (c : Cursor) (b : ℕ) (F : ℕ → List Tok → Got Acts) (r : Option (Found ActionSet)) → r ≡ None → Settles b (ahead c) F None → findings.Finds_at IsSet c b F r
none-at = findings.none_found IsSet

-- a word, by what is read after it
pub by_symbol : (c k : Cursor) (x : Token) (m m' : Symbol) (rest : Bor (List Token)) → ahead c ≡ tok x ∷ unread rest → x ≡ token.Symbol m → m ≡ m' → k ≡ moved c rest →
    (r : Option (Found ActionSet)) → ChoosesBy k (λ r ts. action_at r m' ts) r → Chooses c Tight r
by_symbol c k x m m' rest e i q p r f =
    findings.tight-from IsSet action_rules c k (symbol m') rest p (e ∙ ap (λ y. tok y ∷ unread rest) (i ∙ ap token.Symbol q)) r f
