-- The nodes of formulas: what stands below a node, and the formula that it is.
-- Nodes have like names, so theirs stand after `node`.
use Rattle.std.specs.Prelude.{ℕ, ◌<◌, ◌≤◌, List, [], ◌∷◌, ◌++◌, All, slice_index_or}
use Rattle.std.specs.List.{fold}
use Rattle.base.specs.Sets.{holds}
use Rattle.meaning.specs.Formula.{Actions, Formula, TRUE, FALSE, NOT, AND, OR}
use Rattle.formula.specs.declared.symbol.Operator.{Operator}
use Rattle.formula.specs.declared.symbol.Quantifier.{Quantifier}
use Rattle.formula.specs.declared.symbol.Link.{Link}
use Rattle.formula.specs.declared.node.Node.{Node}
use Rattle.formula.specs.declared.node.Node.TheVariants as node
use Rattle.formula.specs.Formulas.{short, path}

-- a node, with its sets of actions
pub data Shape : Type 0 where
  true_node : Shape
  false_node : Shape
  not_node : ℕ → Shape
  and_node : ℕ → ℕ → Shape
  or_node : ℕ → ℕ → Shape
  short_node : Operator → Actions → ℕ → Shape
  path_node : Quantifier → Link → Actions → ℕ → Actions → ℕ → Shape

abbrev pub shape : Node → Shape
shape node.True = true_node
shape node.False = false_node
shape (node.Not k) = not_node k
shape (node.And k m) = and_node k m
shape (node.Or k m) = or_node k m
shape (node.Short o p) = short_node o (holds p.actions) p.child
shape (node.Path q l p r) = path_node q l (holds p.actions) p.child (holds r.actions) r.child

-- the numbers of the nodes below a node
abbrev pub children : Shape → List ℕ
children true_node = []
children false_node = []
children (not_node k) = k ∷ []
children (and_node k m) = k ∷ m ∷ []
children (or_node k m) = k ∷ m ∷ []
children (short_node o c k) = k ∷ []
children (path_node q l c k d m) = k ∷ m ∷ []

-- all of them are less than i
abbrev pub ChildrenBefore : ℕ → Shape → Type 0
ChildrenBefore i x = All (λ k. k < i) (children x)

-- and b at least
abbrev pub ChildrenIn : ℕ → ℕ → Shape → Type 0
ChildrenIn b i x = All (λ k. (b ≤ k) × (k < i)) (children x)

-- the formula of a node, by those of the nodes below it
abbrev pub build : (ℕ → Formula) → Shape → Formula
build of true_node = TRUE
build of false_node = FALSE
build of (not_node k) = NOT (of k)
build of (and_node k m) = AND (of k) (of m)
build of (or_node k m) = OR (of k) (of m)
build of (short_node o c k) = short o c (of k)
build of (path_node q l c k d m) = path q l c (of k) d (of m)

-- by a list of the formulas of the nodes before it
abbrev pub build_over : List Formula → Shape → Formula
build_over fs x = build (λ k. slice_index_or fs k TRUE) x

-- the formulas of nodes, after those of the nodes before them
abbrev pub grow : List Formula → List Shape → List Formula
grow fs xs = fold (λ fs x. fs ++ build_over fs x ∷ []) fs xs

-- the formula of the node of a number
abbrev pub formula_at : List Shape → ℕ → Formula
formula_at xs k = slice_index_or (grow [] xs) k TRUE
