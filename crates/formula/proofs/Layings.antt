-- A node written after those of the formulas below it is laid as its tree is.
use Rattle.std.proofs.Common.{◌≡◌, ℕ, ap, ◌∙◌}
use Rattle.base.specs.declared.action_set.ActionSet.{ActionSet}
use Rattle.formula.specs.declared.symbol.Operator.{Operator}
use Rattle.formula.specs.declared.symbol.Quantifier.{Quantifier}
use Rattle.formula.specs.declared.symbol.Link.{Link}
use Rattle.formula.specs.Choosing.{set_of, IsSet}
use Rattle.formula.specs.Laying.{DraftState, push, top, lay}
use Rattle.formula.specs.Shapes.{Shape, short_node, path_node}
use Rattle.base.specs.Sets.{holds}
use Rattle.formula.specs.Trees.{Acts, Tree, short, path}
use Rattle.formula.specs.Vocabulary.{Vocabulary}

module _ (names : Vocabulary) where
  -- sets with the same members
  same_set : (c : Acts) (a : ActionSet) → IsSet names c a → holds a ≡ set_of names.labels c
  same_set c a h = λ i k. h k i

  pub one_below : (f : ℕ → Shape) (t : Tree) (s s₁ s₂ : DraftState) (k : ℕ) → s₁ ≡ lay names t s → k ≡ top s₁ → s₂ ≡ push s₁ (f k) →
      s₂ ≡ push (lay names t s) (f (top (lay names t s)))
  one_below f t s s₁ s₂ k a b e = e ∙ ap (λ x. push s₁ (f x)) b ∙ ap (λ x. push x (f (top x))) a

  pub two_below : (f : ℕ → ℕ → Shape) (t u : Tree) (s s₁ s₂ s₃ : DraftState) (k m : ℕ) → s₁ ≡ lay names t s → k ≡ top s₁ → s₂ ≡ lay names u s₁ → m ≡ top s₂ →
      s₃ ≡ push s₂ (f k m) → s₃ ≡ push (lay names u (lay names t s)) (f (top (lay names t s)) (top (lay names u (lay names t s))))
  two_below f t u s s₁ s₂ s₃ k m a b c d e =
      e ∙ ap (λ x. push s₂ (f x m)) b ∙ ap (λ x. push s₂ (f (top s₁) x)) d ∙ ap (λ x. push x (f (top s₁) (top x))) c
      ∙ ap (λ x. push (lay names u x) (f (top x) (top (lay names u x)))) a

  pub laid-short : (o : Operator) (c : Acts) (t : Tree) (a : ActionSet) (s s₁ s₂ : DraftState) (k : ℕ) → IsSet names c a → s₁ ≡ lay names t s → k ≡ top s₁ →
      s₂ ≡ push s₁ (short_node o (holds a) k) → s₂ ≡ lay names (short o c t) s
  laid-short o c t a s s₁ s₂ k h p q e = one_below (short_node o (set_of names.labels c)) t s s₁ s₂ k p q (e ∙ ap (λ x. push s₁ (short_node o x k)) (same_set c a h))

  pub laid-path : (q : Quantifier) (l : Link) (c d : Acts) (t u : Tree) (a b : ActionSet) (s s₁ s₂ s₃ : DraftState) (k m : ℕ) → IsSet names c a → IsSet names d b →
      s₁ ≡ lay names t s → k ≡ top s₁ → s₂ ≡ lay names u s₁ → m ≡ top s₂ → s₃ ≡ push s₂ (path_node q l (holds a) k (holds b) m) → s₃ ≡ lay names (path q l c t d u) s
  laid-path q l c d t u a b s s₁ s₂ s₃ k m g h p x y z e =
      two_below (λ i j. path_node q l (set_of names.labels c) i (set_of names.labels d) j) t u s s₁ s₂ s₃ k m p x y z
      (e ∙ ap (λ w. push s₂ (path_node q l w k (holds b) m)) (same_set c a g) ∙ ap (λ w. push s₂ (path_node q l (set_of names.labels c) k w m)) (same_set d b h))
