-- How much is read at once, and what the words of chains make.
-- Levels and stages have like names, so levels stand after `level`.
use Rattle.std.specs.Prelude.{ℕ, Bool, ◌&&◌, ◌||◌}
use Rattle.formula.specs.declared.built.Level.{Level}
use Rattle.formula.specs.declared.built.Level.TheVariants as level
use Rattle.formula.specs.declared.symbol.Connective.{Connective}
use Rattle.formula.specs.declared.symbol.Connective.TheVariants.{And, Or}
use Rattle.formula.specs.Shapes.{Shape, and_node, or_node}
use Rattle.formula.specs.Reading.{Stage, OrLevel, AndLevel, Tight, Rules}

-- how much an operand of a chain is
abbrev pub operand : Connective → Level
operand Or = level.Chain And
operand And = level.Tight

abbrev pub stage : {X : Type 0} → Level → Stage X
stage (level.Chain Or) = OrLevel
stage (level.Chain And) = AndLevel
stage level.Tight = Tight

-- what a word makes of two formulas that were read, of the numbers of two nodes, and of an action's
-- being in two sets
abbrev pub joined : {X : Type 0} → Rules X → Connective → X → X → X
joined R Or = R.either
joined R And = R.both

abbrev pub node_of : Connective → ℕ → ℕ → Shape
node_of Or = or_node
node_of And = and_node

abbrev pub combined : Connective → Bool → Bool → Bool
combined Or x y = x || y
combined And x y = x && y
