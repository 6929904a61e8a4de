-- What is left of the tokens of a text, and what stands first in it.
use Rattle.std.specs.Prelude.{◌≡◌, ◌+◌, List, [], ◌∷◌, map, length, Some, None, Option}
use Rattle.std.specs.Borrow.{Bor}
use Rattle.formula.specs.declared.built.Found.{Found}
use Rattle.formula.specs.declared.cursor.Cursor.{Cursor}
use Rattle.formula.specs.declared.token.Token.{Token}
use Rattle.formula.specs.declared.symbol.Link.{Link}
use Rattle.formula.specs.declared.symbol.Symbol.{Symbol}
use Rattle.formula.specs.declared.symbol.Sign.{Sign}
use Rattle.formula.specs.Reading.{past_sign}
use Rattle.formula.specs.Tokens.{Tok, symbol, name, tok}

abbrev pub unread : Bor (List Token) → List Tok
unread rest = map tok rest.now

-- what is yet to be read
abbrev pub ahead : Cursor → List Tok
ahead c = unread c.tokens

-- the same names, where these tokens are left
abbrev pub moved : Cursor → Bor (List Token) → Cursor
moved c rest = record { tokens = rest; names = c.names }

-- what follows one token
abbrev pub Past : List Tok → Option (List Tok) → Option (Bor (List Token)) → Type 0
Past ts o None = o ≡ None
Past ts o (Some rest) = (o ≡ Some (unread rest)) × (length ts ≡ length (unread rest) + 1)

-- what was read, as far as a sign that follows it
abbrev pub Closed : {V : Type 0} → Sign → Found V → Option (Found V) → Type 0
Closed s y None = past_sign s (unread y.rest) ≡ None
Closed s y (Some z) =
    (past_sign s (unread y.rest) ≡ Some (unread z.rest))
    × (length (unread y.rest) ≡ length (unread z.rest) + 1) × (z.value ≡ y.value)

-- the sign or word that stands first, and what follows it; none at a name
abbrev pub first : List Tok → Option Symbol
first [] = None
first (name w ∷ ts) = None
first (symbol m ∷ ts) = Some m

abbrev pub SymbolFirst : List Tok → Option (Found Symbol) → Type 0
SymbolFirst ts None = first ts ≡ None
SymbolFirst ts (Some y) =
    (ts ≡ symbol y.value ∷ unread y.rest) × (length ts ≡ length (unread y.rest) + 1)

-- the word between two parts, and what follows it
abbrev pub Linked : List Tok → Option (Link × List Tok) → Option (Found Link) → Type 0
Linked ts o None = o ≡ None
Linked ts o (Some y) =
    (o ≡ Some (y.value, unread y.rest)) × (length ts ≡ length (unread y.rest) + 1)
