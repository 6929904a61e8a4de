-- The functions that read formulas, step by step.
use Rattle.std.proofs.Common.{◌≡◌, ℕ, ◌+◌, ◌≤◌, false, cond, ◌⊎◌, List, [], ◌∷◌, length, Some, None, Option, sym, refl, ap, ◌∙◌, subst, inl, inr, arith}
use Rattle.std.specs.Borrow.{Bor}
use Rattle.formula.specs.Vocabulary.{Vocabulary, vocabulary}
use Rattle.base.specs.declared.action_set.ActionSet.{ActionSet}
use Rattle.formula.specs.declared.built.Found.{Found}
use Rattle.formula.specs.declared.symbol.Connective.{Connective}
use Rattle.formula.specs.declared.symbol.Connective.TheVariants.{And, Or}
use Rattle.formula.specs.declared.built.Level.{Level}
use Rattle.formula.specs.declared.node.Part.{Part}
use Rattle.formula.specs.declared.cursor.Cursor.{Cursor}
use Rattle.formula.specs.declared.symbol.Link.{Link}
use Rattle.formula.specs.declared.symbol.Symbol.{Symbol}
use Rattle.formula.specs.declared.symbol.Symbol.TheVariants.{Tau, Between, Connective as connective}
use Rattle.formula.specs.declared.symbol.Quantifier.{Quantifier}
use Rattle.formula.specs.declared.symbol.Sign.TheVariants.{BracketOpen, BracketClose, BraceOpen}
use Rattle.formula.specs.declared.draft.Draft.{Draft}
use Rattle.formula.specs.declared.token.Token.{Token}
use Rattle.formula.specs.Tokens.{Tok, symbol, name}
use Rattle.formula.specs.Grammar.{begins}
use Rattle.formula.specs.Building.{Laid, BuildsBy, Builds, LaidPart, BuildsPart}
use Rattle.formula.specs.Choosing.{IsSet, ChoosesBy}
use Rattle.formula.specs.Finding.{Settles}
use Rattle.formula.specs.Laying.{drafted, push, top, lay}
use Rattle.formula.specs.Shapes.{Shape, and_node, or_node}
use Rattle.formula.specs.Levels.{stage, node_of}
use Rattle.formula.specs.Levels as levels
use Rattle.formula.specs.Places.{unread, ahead, moved, first}
use Rattle.formula.specs.Reading.{past_sign, if_there, Got, Reader, and_then, OrLevel, Tight, read, ended_by, in_braces, with_formula, after_braces, part, link, second_part, two_parts, formula_at, formula, formula_rules}
use Rattle.formula.specs.Trees.{Acts, all, Tree, TRUE, path}
use Rattle.formula.proofs.Findings as findings
use Rattle.formula.proofs.Layings as layings

-- where no formula begins
pub no_symbol : (r : Reader Tree) (ts : List Tok) → first ts ≡ None → formula r ts ≡ None
no_symbol r [] e = refl
no_symbol r (name w ∷ ts) e = refl
no_symbol r (symbol m ∷ ts) e = let z : ◌≡◌ {A = ℕ} 0 1 = cc in absurd (omega arith)

pub no_formula : (r : Reader Tree) (m : Symbol) (ts : List Tok) → (m ≡ Tau) ⊎ (((x : Link) × m ≡ Between x) ⊎ ((x : Connective) × m ≡ connective x)) → formula_at r m ts ≡ None
no_formula r m ts (inl e) = ap (λ k. formula_at r k ts) e
no_formula r m ts (inr (inl p)) = ap (λ k. formula_at r k ts) p.1
no_formula r m ts (inr (inr p)) = ap (λ k. formula_at r k ts) p.1

-- a formula, by its first word
pub by_symbol : (c k : Cursor) (before after : Draft) (m m' : Symbol) (rest : Bor (List Token)) → ahead c ≡ symbol m ∷ unread rest → m ≡ m' → k ≡ moved c rest →
    (r : Option (Found ℕ)) → BuildsBy k before after (λ r ts. formula_at r m' ts) r → Builds c before after Tight r
by_symbol c k before after m m' rest e q p r f =
    findings.tight-from (λ names. Laid names before after) formula_rules c k (symbol m') rest p (e ∙ ap (λ x. symbol x ∷ unread rest) q) r f

-- a node over two that were laid, in a draft that is the same as theirs
laid-two : (names : Vocabulary) (f : ℕ → ℕ → Shape) (x y : Tree) (s t u u' d d' : Draft) (v w z : ℕ) → Laid names s t x v → Laid names t u y w → d ≡ u → d' ≡ u' →
    drafted d' ≡ push (drafted d) (f v w) → z ≡ top (drafted d') →
    (drafted u' ≡ push (lay names y (lay names x (drafted s))) (f (top (lay names x (drafted s))) (top (lay names y (lay names x (drafted s)))))) × (z ≡ top (drafted u'))
laid-two names f x y s t u u' d d' v w z h k p q a n = (
  layings.two_below names f x y (drafted s) (drafted t) (drafted u) (drafted u') v w h.0 h.1 k.0 k.1
      (ap drafted (sym q) ∙ a ∙ ap (λ e. push (drafted e) (f v w)) p),
  n ∙ ap (λ e. top (drafted e)) q,
)

pub joined : (names : Vocabulary) (j : Connective) (x y : Tree) (s t u u' d d' : Draft) (v w z : ℕ) → Laid names s t x v → Laid names t u y w → d ≡ u → d' ≡ u' →
    drafted d' ≡ push (drafted d) (node_of j v w) → z ≡ top (drafted d') → Laid names s u' (levels.joined formula_rules j x y) z
joined names Or = laid-two names or_node
joined names And = laid-two names and_node

-- braces with nothing after them
pub none_follows : (l : Level) (c : Acts) (ts : List Tok) (n : ℕ) → false ≡ begins ts → after_braces (read formula_rules n (stage l)) c ts ≡ Some ((c, TRUE), ts)
none_follows l c ts n h = ap (λ b. cond b (with_formula (read formula_rules n (stage l)) c ts) (Some ((c, TRUE), ts))) (sym h)

-- a part without braces, and one with
pub without_braces : (c : Cursor) (before after : Draft) (l : Level) (r : Option (Found Part)) → past_sign BraceOpen (ahead c) ≡ None →
    BuildsPart c before after (λ r. with_formula (r (stage l)) all) r → BuildsPart c before after (λ r. part (r (stage l))) r
without_braces c before after l r h k =
    findings.led (λ names. LaidPart names before after) c c c.tokens 3 3 (λ n. part (read formula_rules n (stage l))) (λ n. with_formula (read formula_rules n (stage l)) all) refl
    (omega arith) (omega arith)
    (λ n m. ap (λ o. if_there o (λ us. and_then (in_braces us) (after_braces (read formula_rules n (stage l)))) (with_formula (read formula_rules n (stage l)) all (ahead c))) h) r k

pub with_braces : (c k k' : Cursor) (before after : Draft) (l : Level) (inside : Bor (List Token)) (braces : Found ActionSet) (r : Option (Found Part)) → k ≡ moved c inside →
    k' ≡ moved c braces.rest → past_sign BraceOpen (ahead c) ≡ Some (unread inside) → length (ahead c) ≡ length (unread inside) + 1 → ChoosesBy k (λ r ts. in_braces ts) (Some braces) →
    ((a : Acts) → IsSet (vocabulary k'.names) a braces.value → BuildsPart k' before after (λ r. after_braces (r (stage l)) a) r) →
    BuildsPart c before after (λ r. part (r (stage l))) r
with_braces c k k' before after l inside braces r p p' h i chosen follows =
    let d = subst (λ x. ChoosesBy x (λ r ts. in_braces ts) (Some braces)) p chosen in
    let f = subst (λ x. (a : Acts) → IsSet (vocabulary x.names) a braces.value → BuildsPart x before after (λ r. after_braces (r (stage l)) a) r) p' follows in
    findings.led (λ names. LaidPart names before after) c (moved c braces.rest) braces.rest 3 3 (λ n. part (read formula_rules n (stage l)))
    (λ n. after_braces (read formula_rules n (stage l)) d.0) refl (omega (arith, i, d.3)) (omega arith)
    (λ n m.
    ap (λ o. if_there o (λ us. and_then (in_braces us) (after_braces (read formula_rules n (stage l)))) (with_formula (read formula_rules n (stage l)) all (ahead c))) h
    ∙ ap (λ g. and_then g (after_braces (read formula_rules n (stage l)))) (d.1 n (omega (arith, i)))) r (f d.0 d.2)

-- two parts in brackets
pub bracketed : (c : Cursor) (q : Quantifier) (l : Link) (p u : Acts × Tree) (inside mid on last end : Bor (List Token)) →
    past_sign BracketOpen (ahead c) ≡ Some (unread inside) → length (ahead c) ≡ length (unread inside) + 1 →
    Settles 3 (unread inside) (λ n. part (read formula_rules n OrLevel)) (Some (p, unread mid)) → length (unread mid) ≤ length (unread inside) →
    link (unread mid) ≡ Some (l, unread on) → length (unread mid) ≡ length (unread on) + 1 →
    Settles 3 (unread on) (λ n. part (read formula_rules n OrLevel)) (Some (u, unread last)) → past_sign BracketClose (unread last) ≡ Some (unread end) →
    Settles 3 (ahead c) (λ n ts. if_there (past_sign BracketOpen ts) (two_parts (read formula_rules n OrLevel) q) None) (Some (path q l p.0 p.1 u.0 u.1, unread end))
bracketed c q l p u inside mid on last end h i a m e j b f n k =
    let r = read formula_rules n OrLevel in
    ap (λ o. if_there {X = Got Tree} o (two_parts r q) None) h
    ∙ ap (λ g. and_then g (λ x us. and_then (link us) (second_part r q x))) (a n (omega (arith, i)))
    ∙ ap (λ g. and_then g (second_part r q p)) e
    ∙ ap (λ g. and_then g (λ x rest. ended_by BracketClose (path q l p.0 p.1 x.0 x.1) rest)) (b n (omega (arith, i, m, j)))
    ∙ ap (λ o. if_there {X = Got Tree} o (λ rest. Some (path q l p.0 p.1 u.0 u.1, rest)) None) f
