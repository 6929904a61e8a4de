-- What the functions of the reader write into a draft, and answer.
use Rattle.std.specs.Prelude.{◌≡◌, ℕ, List, Option}
use Rattle.formula.specs.declared.built.Found.{Found}
use Rattle.formula.specs.declared.node.Part.{Part}
use Rattle.formula.specs.declared.cursor.Cursor.{Cursor}
use Rattle.formula.specs.declared.draft.Draft.{Draft}
use Rattle.formula.specs.Choosing.{IsSet}
use Rattle.formula.specs.Finding.{Finds}
use Rattle.formula.specs.Laying.{drafted, top, lay}
use Rattle.formula.specs.Reading.{Stage, Reader, Got, read, rank, formula_rules}
use Rattle.formula.specs.Tokens.{Tok}
use Rattle.formula.specs.Trees.{Acts, Tree}
use Rattle.formula.specs.Vocabulary.{Vocabulary, vocabulary}

-- the nodes of a tree were written after those before, and the answer is its number
abbrev pub Laid : Vocabulary → Draft → Draft → Tree → ℕ → Type 0
Laid v before after t root =
    (drafted after ≡ lay v t (drafted before)) × (root ≡ top (drafted after))

abbrev pub Builds : Cursor → Draft → Draft → Stage Tree → Option (Found ℕ) → Type 0
Builds c before after l r =
    Finds (Laid (vocabulary c.names) before after) c (rank l) (λ n. read formula_rules n l) r

-- the same, by how a reader goes on
abbrev pub BuildsBy : Cursor → Draft → Draft → (Reader Tree → List Tok → Got Tree) →
    Option (Found ℕ) → Type 0
BuildsBy c before after F r =
    Finds (Laid (vocabulary c.names) before after) c 3 (λ n. F (read formula_rules n)) r

-- a part: the actions of its action formula too
abbrev pub LaidPart : Vocabulary → Draft → Draft → Acts × Tree → Part → Type 0
LaidPart v before after p y = Laid v before after p.1 y.child × IsSet v p.0 y.actions

abbrev pub BuildsPart : Cursor → Draft → Draft → (Reader Tree → List Tok → Got (Acts × Tree)) →
    Option (Found Part) → Type 0
BuildsPart c before after F r =
    Finds (LaidPart (vocabulary c.names) before after) c 3 (λ n. F (read formula_rules n)) r
