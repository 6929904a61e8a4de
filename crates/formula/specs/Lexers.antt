-- What a lexer has left.
use Rattle.std.specs.Prelude.{ℕ, List}
use Rattle.formula.specs.declared.lexer.Lexer.{Lexer}

-- the text that it has not read
abbrev pub rest_of : Lexer → List ℕ
rest_of l = l.rest.now
