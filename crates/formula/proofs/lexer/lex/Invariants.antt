use Rattle.std.proofs.Common.{◌+◌, ◌≤◌, length, take}
use Rattle.formula.proofs.Lexing.{Lexed}
use Rattle.formula.proofs.lexer.lex.Given as goal

abbrev pub invariant-loop-token : goal.invariant-loop-token
invariant-loop-token l = record {
  lexed : Lexed l.text (take l.count l.room) l.token-iterator.rest.now;
  few : l.count + length l.token-iterator.rest.now ≤ length l.text;
}
