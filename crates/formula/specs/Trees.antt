-- What a text says, as trees.
use Rattle.std.specs.Prelude.{ℕ, List}
use Rattle.formula.specs.declared.symbol.Operator.{Operator}
use Rattle.formula.specs.declared.symbol.Quantifier.{Quantifier}
use Rattle.formula.specs.declared.symbol.Link.{Link}

-- an action formula: TRUE, FALSE, TAU, a name, NOT, AND and OR
pub data Acts : Type 0 where
  all : Acts
  none : Acts
  silent : Acts
  named : List ℕ → Acts
  complement : Acts → Acts
  intersection : Acts → Acts → Acts
  union : Acts → Acts → Acts

-- a formula; an operator has an action formula and a formula for each of its parts
pub data Tree : Type 0 where
  TRUE : Tree
  FALSE : Tree
  NOT : Tree → Tree
  AND : Tree → Tree → Tree
  OR : Tree → Tree → Tree
  short : Operator → Acts → Tree → Tree
  path : Quantifier → Link → Acts → Tree → Acts → Tree → Tree
