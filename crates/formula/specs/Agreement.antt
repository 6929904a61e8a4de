-- What is claimed of the grammar and of the reader's way through the tokens.
use Rattle.std.specs.Prelude.{◌≡◌, ℕ, IsTrue, List, [], Some, codes}
use Rattle.base.specs.Listing.{lawful}
use Rattle.formula.specs.Choosing.{set_of}
use Rattle.formula.specs.Tokens.{Tok}
use Rattle.formula.specs.Trees.{silent, named, Tree}
use Rattle.formula.specs.Grammar.{Derives, or_level, Parses}
use Rattle.formula.specs.Reading.{tree_of}

-- the reader finds a tree exactly where the tokens are that formula
abbrev pub Agreement : Type 0
Agreement =
    (ts : List Tok) (t : Tree) → (tree_of ts ≡ Some t → Derives or_level ts t [])
    × (Derives or_level ts t [] → tree_of ts ≡ Some t)

-- a text is a formula in one way only
abbrev pub OneReading : Type 0
OneReading = (text : List ℕ) (t u : Tree) → Parses text t → Parses text u → t ≡ u

-- by every label list, the name tau stands for what the word TAU does
abbrev pub TauIsSilent : Type 0
TauIsSilent =
    (names : List (List ℕ)) → IsTrue (lawful names) → (a : ℕ) → set_of names (named (codes "tau")) a
    ≡ set_of names silent a
