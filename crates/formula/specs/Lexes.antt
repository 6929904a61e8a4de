-- The tokens of a text as a relation: spaces may stand between them, a sign is one character, and a
-- word or a name is a longest run. The symbol that a sign is stands as `signed`, since `Sign` is
-- the type of signs.
use Rattle.std.specs.Prelude.{◌≡◌, ℕ, Bool, true, IsTrue, not, List, [], ◌∷◌, ◌++◌, Some}
use Rattle.std.specs.List.{list_all}
use Rattle.base.specs.Names.{name_byte, is_name}
use Rattle.formula.specs.declared.symbol.Symbol.{Symbol}
use Rattle.formula.specs.declared.symbol.Symbol.TheVariants.{Sign as signed}
use Rattle.formula.specs.declared.symbol.Sign.{Sign}
use Rattle.formula.specs.Tokens.{Tok, symbol, name, tokens_of, sign, word, capital}

-- whether a text ends, or goes on with a byte that does not pass: a run before it is a longest one
abbrev pub stops : (ℕ → Bool) → List ℕ → Bool
stops p [] = true
stops p (b ∷ bs) = not (p b)

pub data Lexes : List ℕ → List Tok → Type 0 where
  done : Lexes [] []
  space : {rest : List ℕ} {ts : List Tok} → Lexes rest ts → Lexes (32 ∷ rest) ts
  a_sign : {c : ℕ} {s : Sign} {rest : List ℕ} {ts : List Tok} → sign c ≡ Some s → Lexes rest ts →
      Lexes (c ∷ rest) (symbol (signed s) ∷ ts)
  a_word : (w rest : List ℕ) {m : Symbol} {ts : List Tok} → IsTrue (list_all capital w) →
      IsTrue (stops capital rest) → word w ≡ Some m → Lexes rest ts →
      Lexes (w ++ rest) (symbol m ∷ ts)
  a_name : (w rest : List ℕ) {ts : List Tok} → IsTrue (is_name w) →
      IsTrue (stops name_byte rest) → Lexes rest ts → Lexes (w ++ rest) (name w ∷ ts)

-- a text has these tokens exactly when the lexer's function finds them
abbrev pub LongestRuns : Type 0
LongestRuns =
    (text : List ℕ) (ts : List Tok) → (tokens_of text ≡ Some ts → Lexes text ts)
    × (Lexes text ts → tokens_of text ≡ Some ts)
