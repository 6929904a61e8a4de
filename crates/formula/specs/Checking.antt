-- What the checks of a text hand on, before anything is altered.
use Rattle.std.specs.Prelude.{◌≡◌, ℕ, Bool, true, List, length, is_some, Some, None, Ok, Err, Option, Result}
use Rattle.std.specs.List.{list_all}
use Rattle.base.specs.Listing.{action_of}
use Rattle.base.specs.declared.refusal.Refusal.{Refusal}
use Rattle.base.specs.declared.refusal.Refusal.TheVariants.{Grammar, Nameless, Full}
use Rattle.formula.specs.declared.nodes.Nodes.{Nodes}
use Rattle.formula.specs.Entering.{AllListed, Unlisted, NoRoom, OneMore, Added, Refused}
use Rattle.formula.specs.Laying.{DraftState, lay}
use Rattle.formula.specs.Nodes.{roots}
use Rattle.formula.specs.Reading.{tree_of}
use Rattle.formula.specs.Tokens.{Tok, symbol, name}
use Rattle.formula.specs.Trees.{Tree}
use Rattle.formula.specs.Vocabulary.{Vocabulary}

-- whether a token is no name that the list lacks
abbrev pub is_listed : Vocabulary → Tok → Bool
is_listed v (symbol m) = true
is_listed v (name w) = is_some (action_of w v.labels)

abbrev pub all_listed : Vocabulary → List Tok → Bool
all_listed v ts = list_all (is_listed v) ts

-- the tokens as a whole: their tree was laid into a draft
abbrev pub Whole : Vocabulary → List Tok → DraftState → DraftState → Option (Unit {0}) → Type 0
Whole v ts before after None = tree_of ts ≡ None
Whole v ts before after (Some u) = (t : Tree) × (tree_of ts ≡ Some t) × (after ≡ lay v t before)

-- why tokens are refused
abbrev pub RefusedTokens : Vocabulary → List Tok → Nodes → Refusal → Type 0
RefusedTokens v ts n Grammar = tree_of ts ≡ None
RefusedTokens v ts n Nameless = (t : Tree) × (tree_of ts ≡ Some t) × Unlisted v ts
RefusedTokens v ts n Full = (t : Tree) × (tree_of ts ≡ Some t) × AllListed v ts × NoRoom n t
RefusedTokens v ts n e = ⊥

-- the table that tokens make of another
abbrev pub ChecksTokens : Vocabulary → List Tok → Nodes → Result Nodes Refusal → Type 0
ChecksTokens v ts n (Ok m) =
    (t : Tree) × (tree_of ts ≡ Some t) × AllListed v ts × OneMore v t n m (length (roots n))
ChecksTokens v ts n (Err e) = RefusedTokens v ts n e

-- the table that a text makes of another
abbrev pub Checks : List ℕ → Vocabulary → Nodes → Result Nodes Refusal → Type 0
Checks text v n (Ok m) = Added text v n m (length (roots n))
Checks text v n (Err e) = Refused text v n e
