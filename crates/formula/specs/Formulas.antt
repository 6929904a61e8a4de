-- What a tree means by the names that a text may use, and how many nodes it has.
-- Trees have like names, so theirs stand after `tree`.
use Rattle.std.specs.Prelude.{ℕ, ◌+◌}
use Rattle.meaning.specs.Formula as meant
use Rattle.meaning.specs.Formula.{Actions, Formula, TRUE, FALSE, NOT, AND, OR, EX, EF, EG, AX, AF, AG}
use Rattle.formula.specs.declared.symbol.Operator.{Operator}
use Rattle.formula.specs.declared.symbol.Operator.TheVariants.{Ex, Ef, Eg, Ax, Af, Ag}
use Rattle.formula.specs.declared.symbol.Quantifier.{Quantifier}
use Rattle.formula.specs.declared.symbol.Quantifier.TheVariants.{Exists, ForAll}
use Rattle.formula.specs.declared.symbol.Link.{Link}
use Rattle.formula.specs.declared.symbol.Link.TheVariants.{Until, Unless}
use Rattle.formula.specs.Choosing.{set_of}
use Rattle.formula.specs.Trees as tree
use Rattle.formula.specs.Trees.{Tree}
use Rattle.formula.specs.Vocabulary.{Vocabulary}

-- an operator with one part
abbrev pub short : Operator → Actions → Formula → Formula
short Ex c f = EX c f
short Ef c f = EF c f
short Eg c f = EG c f
short Ax c f = AX c f
short Af c f = AF c f
short Ag c f = AG c f

-- quantifiers and links
abbrev pub quantifier : Quantifier → meant.Quantifier
quantifier Exists = meant.E
quantifier ForAll = meant.A

abbrev pub temporal : Link → meant.Temporal
temporal Until = meant.U
temporal Unless = meant.W

-- an operator with two parts
abbrev pub path : Quantifier → Link → Actions → Formula → Actions → Formula → Formula
path q l c f d g = meant.path (quantifier q) (temporal l) c f d g

-- the formula that a tree is, by the names that a text may use
abbrev pub by_names : Vocabulary → Tree → Formula
by_names v tree.TRUE = TRUE
by_names v tree.FALSE = FALSE
by_names v (tree.NOT t) = NOT (by_names v t)
by_names v (tree.AND t u) = AND (by_names v t) (by_names v u)
by_names v (tree.OR t u) = OR (by_names v t) (by_names v u)
by_names v (tree.short o c t) = short o (set_of v.labels c) (by_names v t)
by_names v (tree.path q l c t d u) =
    path q l (set_of v.labels c) (by_names v t) (set_of v.labels d) (by_names v u)

-- how many nodes it has: TRUE, FALSE, NOT, AND, OR and each operator is one, a left-out TRUE too
abbrev pub size : Tree → ℕ
size tree.TRUE = 1
size tree.FALSE = 1
size (tree.NOT t) = size t + 1
size (tree.AND t u) = size t + size u + 1
size (tree.OR t u) = size t + size u + 1
size (tree.short o c t) = size t + 1
size (tree.path q l c t d u) = size t + size u + 1
