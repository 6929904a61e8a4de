-- How the nodes of formulas stand in one table: those of each after those of the one before it.
use Rattle.std.specs.Prelude.{◌≡◌, ℕ, zero, suc, ◌+◌, ◌<◌, ◌≤◌, List, ◌++◌, length, slice_index_or}
use Rattle.formula.specs.Shapes.{Shape, true_node, ChildrenIn}

-- the number of a formula's last node, its root
abbrev pub root_of : List ℕ → ℕ → ℕ
root_of roots f = slice_index_or roots f 0

-- the number of its first node, which follows the root of the formula before it
abbrev pub first_of : List ℕ → ℕ → ℕ
first_of roots zero = 0
first_of roots (suc f) = root_of roots f + 1

-- each formula has a node at least, so the roots ascend
abbrev pub Ascending : List ℕ → Type 0
Ascending roots = (f : ℕ) → f < length roots → first_of roots f ≤ root_of roots f

-- the last root is the last node
abbrev pub Ends : List ℕ → List Shape → Type 0
Ends roots xs = first_of roots (length roots) ≡ length xs

-- each node from b on has only nodes from b on below it, and stands after them
abbrev pub Own : ℕ → List Shape → Type 0
Own b xs = (k : ℕ) → b ≤ k → k < length xs → ChildrenIn b k (slice_index_or xs k true_node)

-- below a node of a formula are only nodes of the formula, and they stand before it
abbrev pub Apart : List ℕ → List Shape → Type 0
Apart roots xs =
    (f k : ℕ) → f < length roots → first_of roots f ≤ k → k ≤ root_of roots f
    → ChildrenIn (first_of roots f) k (slice_index_or xs k true_node)

-- nodes past others, with none of those below them
pub record Extended (before after : List Shape) : Type 0 where
  pub new : List Shape
  pub grown : after ≡ before ++ new
  pub some : 1 ≤ length new
  pub own : Own (length before) after
