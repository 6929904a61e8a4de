-- What a table of nodes holds: nodes, and formulas, each with the nodes of its own.
use Rattle.std.specs.Prelude.{◌≡◌, ℕ, ◌<◌, ◌≤◌, List, map, length, Some, None, Option}
use Rattle.meaning.specs.Formula.{Formula}
use Rattle.formula.specs.declared.nodes.Nodes.{Nodes}
use Rattle.formula.specs.declared.nodes.Span.{Span}
use Rattle.formula.specs.Shapes.{Shape, shape, formula_at}
use Rattle.formula.specs.Tables.{root_of, first_of}

-- the nodes
abbrev pub shapes : Nodes → List Shape
shapes n = map shape n.nodes

-- the number of each formula's last node, its root
abbrev pub roots : Nodes → List ℕ
roots n = n.roots

-- the first and the last node of formula f
abbrev pub first : Nodes → ℕ → ℕ
first n f = first_of (roots n) f

abbrev pub root : Nodes → ℕ → ℕ
root n f = root_of (roots n) f

-- node k is one of formula f
abbrev pub OfFormula : Nodes → ℕ → ℕ → Type 0
OfFormula n f k = (first n f ≤ k) × (k ≤ root n f)

-- formula f
abbrev pub formula_of : Nodes → ℕ → Formula
formula_of n f = formula_at (shapes n) (root n f)

-- where its nodes stand, if there is a formula f
abbrev pub SpanOf : Nodes → ℕ → Option Span → Type 0
SpanOf n f None = length (roots n) ≤ f
SpanOf n f (Some s) = (f < length (roots n)) × (s.first ≡ first n f) × (s.root ≡ root n f)
