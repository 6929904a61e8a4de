-- The tokens of a text, by longest runs.
-- The symbols that signs and connectives are stand as `signed` and `connective`, since `Sign` and
-- `Connective` are types.
use Rattle.std.specs.Prelude.{◌≡◌, ℕ, zero, suc, Bool, ◌&&◌, List, [], ◌∷◌, length, drop, Some, None, Ok, Err, codes, Option, Result, ◌==◌, nat_le, if◌then◌else◌}
use Rattle.std.specs.List.{prefix_len, take_while}
use Rattle.std.specs.Option.{option_map}
use Rattle.std.specs.Str.{bytes_eq}
use Rattle.base.specs.Names.{name_byte, is_name}
use Rattle.base.specs.declared.refusal.Refusal.{Refusal}
use Rattle.base.specs.declared.refusal.Refusal.TheVariants.{Grammar}
use Rattle.formula.specs.declared.symbol.Operator.TheVariants.{Ex, Ef, Eg, Ax, Af, Ag}
-- one of them is named as what an option holds
use Rattle.formula.specs.declared.symbol.Quantifier.TheVariants as quantifier
use Rattle.formula.specs.declared.symbol.Link.TheVariants.{Until, Unless}
use Rattle.formula.specs.declared.symbol.Symbol.{Symbol}
use Rattle.formula.specs.declared.symbol.Symbol.TheVariants.{True, False, Tau, Not, Short, Path, Between, Sign as signed, Connective as connective}
use Rattle.formula.specs.declared.symbol.Sign.{Sign}
use Rattle.formula.specs.declared.symbol.Sign.TheVariants.{Open, Close, BracketOpen, BracketClose, BraceOpen, BraceClose}
use Rattle.formula.specs.declared.symbol.Connective.TheVariants.{And, Or}
use Rattle.formula.specs.declared.token.Token.{Token}
-- they are named as the types of what they hold
use Rattle.formula.specs.declared.token.Token.TheVariants as token

-- a token: a sign or a word, or a name by its bytes
pub data Tok : Type 0 where
  symbol : Symbol → Tok
  name : List ℕ → Tok

-- the token that the program holds
abbrev pub tok : Token → Tok
tok (token.Symbol m) = symbol m
tok (token.Name n) = name n

-- a sign is told by its one character
abbrev pub sign : ℕ → Option Sign
sign c =
    if c == 40 then Some Open
    else if c == 41 then Some Close
    else if c == 91 then Some BracketOpen
    else if c == 93 then Some BracketClose
    else if c == 123 then Some BraceOpen
    else if c == 125 then Some BraceClose
    else None

abbrev pub word : List ℕ → Option Symbol
word w =
    if bytes_eq w (codes "TRUE") then Some True
    else if bytes_eq w (codes "FALSE") then Some False
    else if bytes_eq w (codes "TAU") then Some Tau
    else if bytes_eq w (codes "NOT") then Some Not
    else if bytes_eq w (codes "AND") then Some (connective And)
    else if bytes_eq w (codes "OR") then Some (connective Or)
    else if bytes_eq w (codes "E") then Some (Path quantifier.Exists)
    else if bytes_eq w (codes "A") then Some (Path quantifier.ForAll)
    else if bytes_eq w (codes "U") then Some (Between Until)
    else if bytes_eq w (codes "W") then Some (Between Unless)
    else if bytes_eq w (codes "EX") then Some (Short Ex)
    else if bytes_eq w (codes "EF") then Some (Short Ef)
    else if bytes_eq w (codes "EG") then Some (Short Eg)
    else if bytes_eq w (codes "AX") then Some (Short Ax)
    else if bytes_eq w (codes "AF") then Some (Short Af)
    else if bytes_eq w (codes "AG") then Some (Short Ag)
    else None

abbrev pub capital : ℕ → Bool
capital b = nat_le 65 b && nat_le b 90

-- what follows the longest run at the front of bytes that pass a test
abbrev pub past : (ℕ → Bool) → List ℕ → List ℕ
past p bs = drop (prefix_len p bs) bs

-- what stands at the front of a text: nothing, no token, or a token and what follows it
pub data Front : Type 0 where
  ended : Front
  broken : Front
  found : Tok → List ℕ → Front

abbrev pub found_symbol : Option Symbol → List ℕ → Front → Front
found_symbol (Some m) rest other = found (symbol m) rest
found_symbol None rest other = other

-- the word, or the name, that a text begins with
abbrev pub word_at : List ℕ → Front
word_at bs = found_symbol (word (take_while capital bs)) (past capital bs) broken

abbrev pub name_at : List ℕ → Front
name_at bs =
    if is_name (take_while name_byte bs)
    then found (name (take_while name_byte bs)) (past name_byte bs)
    else broken

-- the token that a text begins with
abbrev pub token_at : List ℕ → Front
token_at [] = ended
token_at (b ∷ bs) =
    found_symbol (option_map signed (sign b)) bs
    (if capital b then word_at (b ∷ bs) else name_at (b ∷ bs))

-- the next token, after spaces
abbrev pub front : List ℕ → Front
front [] = ended
front (b ∷ bs) = if b == 32 then front bs else token_at (b ∷ bs)

abbrev pub onward : Front → (List ℕ → Option (List Tok)) → Option (List Tok)
onward ended more = Some []
onward broken more = None
onward (found t rest) more = option_map (λ ts. t ∷ ts) (more rest)

-- the tokens of a text, n at most less one: none, if some byte is in no token
abbrev pub tokens_in : ℕ → List ℕ → Option (List Tok)
tokens_in zero text = None
tokens_in (suc n) text = onward (front text) (tokens_in n)

-- the tokens of a text, of which there are no more than bytes
abbrev pub tokens_of : List ℕ → Option (List Tok)
tokens_of text = tokens_in (suc (length text)) text

-- what comes next at the front of a text, with what is left of the text: nothing after what is no
-- token
abbrev pub Steps : Front → Option (Result Token Refusal) → List ℕ → Type 0
Steps f None rest = (f ≡ ended) × (rest ≡ [])
Steps f (Some (Ok t)) rest = f ≡ found (tok t) rest
Steps f (Some (Err e)) rest = (f ≡ broken) × (e ≡ Grammar) × (rest ≡ [])
