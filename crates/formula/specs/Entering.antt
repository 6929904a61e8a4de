-- What entering a text does.
use Rattle.std.specs.Prelude.{◌≡◌, ℕ, ◌+◌, ◌-◌, ◌<◌, ◌≤◌, List, [], ◌∷◌, ◌++◌, length, Contains, IsSome, None, Ok, Err, Result}
use Rattle.base.specs.Listing.{action_of}
use Rattle.base.specs.declared.refusal.Refusal.{Refusal}
use Rattle.base.specs.declared.refusal.Refusal.TheVariants.{Grammar, Nameless, Full}
use Rattle.formula.specs.declared.nodes.Nodes.{Nodes}
use Rattle.formula.specs.Formulas.{by_names, size}
use Rattle.formula.specs.Grammar.{Parses}
use Rattle.formula.specs.Nodes.{shapes, roots, formula_of}
use Rattle.formula.specs.Shapes.{Shape}
use Rattle.formula.specs.Tokens.{Tok, name}
use Rattle.formula.specs.Trees.{Tree}
use Rattle.formula.specs.Vocabulary.{Vocabulary}

-- A text that can be entered: it has 1 to 1,024 bytes, and is the formula t.
pub record IsFormula (text : List ℕ) (t : Tree) : Type 0 where
  pub some : 1 ≤ length text
  pub few : length text ≤ 1024
  pub parses : Parses text t

-- Why a text is none.
pub data Unreadable (text : List ℕ) : Type 0 where
  empty : length text ≡ 0 → Unreadable text
  too_long : 1024 < length text → Unreadable text
  no_formula : ((t : Tree) → ¬ Parses text t) → Unreadable text

-- Each name among the tokens is listed.
abbrev pub AllListed : Vocabulary → List Tok → Type 0
AllListed v ts = (w : List ℕ) → Contains ts (name w) → IsSome (action_of w v.labels)

-- One is not.
abbrev pub Unlisted : Vocabulary → List Tok → Type 0
Unlisted v ts = (w : List ℕ) × Contains ts (name w) × (action_of w v.labels ≡ None)

-- A table has eight formulas, or too many nodes for those of one more.
pub data NoRoom (n : Nodes) (t : Tree) : Type 0 where
  eight_formulas : length (roots n) ≡ 8 → NoRoom n t
  too_many_nodes : 48 < length (shapes n) + size t → NoRoom n t

-- A table that took one formula more, of number f: its nodes stand past the others, and all others
-- are as they were.
pub record OneMore (v : Vocabulary) (t : Tree) (before after : Nodes) (f : ℕ) : Type 0 where
  pub number : f ≡ length (roots before)
  pub new : List Shape
  pub nodes_are : shapes after ≡ shapes before ++ new
  pub long : length new ≡ size t
  pub roots_are : roots after ≡ roots before ++ (length (shapes after) - 1) ∷ []
  pub decodes : formula_of after f ≡ by_names v t
  pub earlier : (g : ℕ) → g < f → formula_of after g ≡ formula_of before g

-- A text that was entered, and its number.
pub record Added (text : List ℕ) (v : Vocabulary) (before after : Nodes) (f : ℕ) : Type 0 where
  pub tree : Tree
  pub is : IsFormula text tree
  pub listed : AllListed v is.parses.tokens
  pub next : OneMore v tree before after f

-- Why a text is refused: 5, then 6, then 7, and for nothing else.
abbrev pub Refused : List ℕ → Vocabulary → Nodes → Refusal → Type 0
Refused text v n Grammar = Unreadable text
Refused text v n Nameless = (t : Tree) × (d : IsFormula text t) × Unlisted v d.parses.tokens
Refused text v n Full =
    (t : Tree) × (d : IsFormula text t) × AllListed v d.parses.tokens × NoRoom n t
Refused text v n e = ⊥

-- What entering a text does to a table. A refusal alters nothing.
abbrev pub Entered : List ℕ → Vocabulary → Nodes → Nodes → Result ℕ Refusal → Type 0
Entered text v before after (Ok f) = Added text v before after f
Entered text v before after (Err e) = Refused text v before e × (after ≡ before)
