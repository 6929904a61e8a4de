-- How much the functions of a reader may still do. A token that is read leaves room for the calls before the next.
use Rattle.std.proofs.Common.{ℕ, ◌+◌, ◌*◌, List, length}
use Rattle.formula.specs.declared.built.Level.{Level}
use Rattle.formula.specs.Levels.{stage}
use Rattle.formula.specs.Reading.{rank}
use Rattle.formula.specs.Tokens.{Tok}

abbrev pub calls : List Tok → ℕ → ℕ
calls ts k = 12 * length ts + k

-- within a level, and for an operand of that level
abbrev pub at_level : (X : Type 0) → List Tok → Level → ℕ
at_level X ts l = calls ts (2 * rank (stage {X = X} l))

abbrev pub at_operand : (X : Type 0) → List Tok → Level → ℕ
at_operand X ts l = calls ts (2 * rank (stage {X = X} l) + 1)
