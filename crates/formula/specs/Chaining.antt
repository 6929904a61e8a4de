-- A chain of operands with AND or OR between them, by what reading an operand and joining two
-- values may answer.
use Rattle.std.specs.Prelude.{◌≡◌, ◌≤◌, List, length, Some, None, Option, IfSome}
use Rattle.std.specs.Borrow.{Bor}
use denote.Ref.{MutBor}
use denote.Param.Members.{Shared}
use Rattle.formula.specs.declared.built.Found.{Found}
use Rattle.formula.specs.declared.symbol.Connective.{Connective}
use Rattle.formula.specs.declared.token.Token.{Token}
use Rattle.formula.specs.Places.{unread}
use Rattle.formula.specs.Reading.{past_connective}

module _ {F V S : Type 0} (g : Shared F (Bor (List Token) × (MutBor S × Unit {0}))
    (Option (Found V) × (MutBor S × Unit {0}))) (f : F) where
  -- f may read r where some tokens are left, and turn the state s into s'
  abbrev pub MayRead : Bor (List Token) → S → Option (Found V) → S → Type 0
  MayRead rest s r s' =
      (p q : MutBor S) × (p.now ≡ s) × g.post f (rest, (p, tt)) (r, (q, tt)) × (q.now ≡ s')

  -- f never goes back
  abbrev pub OnlyOnward : Type 0
  OnlyOnward =
      (rest : Bor (List Token)) (s : S) (r : Option (Found V)) (s' : S) → MayRead rest s r s' →
      IfSome r (λ y. length (unread y.rest) ≤ length (unread rest))

-- f may make z of x and y, and turn the state s into s'
abbrev pub MayJoin : {F V S : Type 0} →
    Shared F (V × (V × (MutBor S × Unit {0}))) (V × (MutBor S × Unit {0})) → F → V → V → S → V → S →
    Type 0
MayJoin {S = S} g f x y s z s' =
    (p q : MutBor S) × (p.now ≡ s) × g.post f (x, (y, (p, tt))) (z, (q, tt)) × (q.now ≡ s')

module _ {V S : Type 0} (Operand : Bor (List Token) → S → Option (Found V) → S → Type 0)
    (Join : V → V → S → V → S → Type 0) (c : Connective) where
  -- what goes on after the beginning of a chain
  pub data More : Found V → S → Option (Found V) → S → Type 0 where
    ends : {left : Found V} {s : S} → past_connective c (unread left.rest) ≡ None →
        More left s (Some left) s
    breaks : {left : Found V} {s s' : S} {next : Bor (List Token)} →
        past_connective c (unread left.rest) ≡ Some (unread next) →
        Operand next s None s' → More left s None s'
    goes_on : {left right : Found V} {s t u s' : S} {next : Bor (List Token)} {v : V}
        {r : Option (Found V)} →
        past_connective c (unread left.rest) ≡ Some (unread next) →
        Operand next s (Some right) t → Join left.value right.value t v u →
        More (record { value = v; rest = right.rest }) u r s' → More left s r s'

  -- a chain where some tokens are left
  pub data Chain : Bor (List Token) → S → Option (Found V) → S → Type 0 where
    fails : {rest : Bor (List Token)} {s s' : S} → Operand rest s None s' → Chain rest s None s'
    begins : {rest : Bor (List Token)} {s t s' : S} {left : Found V} {r : Option (Found V)} →
        Operand rest s (Some left) t → More left t r s' → Chain rest s r s'
