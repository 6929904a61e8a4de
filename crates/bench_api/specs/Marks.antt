-- What marking a formula answers, over cells and memory that a caller outside hands over.
use Rattle.std.specs.Prelude.{◌≡◌, ◌≢◌, ℕ, zero, suc, ◌<◌, ◌≤◌, List, [], ◌∷◌, length}
use Rattle.std.specs.Prelude.{IsSome, None, codes}
use Rattle.formula.specs.Entering.{IsFormula, Unreadable, AllListed, Unlisted}
use Rattle.formula.specs.declared.nodes.Nodes.{Nodes}
use Rattle.formula.specs.Formulas.{by_names, size}
use Rattle.formula.specs.Nodes.{shapes, roots, formula_of}
use Rattle.formula.specs.Trees.{Tree}
use Rattle.formula.specs.Vocabulary.{Vocabulary, by_labels}
use Rattle.model.specs.declared.cell.Cell.{Cell}
use Rattle.model.specs.Cells.{grid_refusal}

-- the names that a formula may use: a, b and c stand for the actions 1, 2 and 3
abbrev pub letters : List (List ℕ)
letters = codes "tau" ∷ codes "a" ∷ codes "b" ∷ codes "c" ∷ []

abbrev pub vocabulary : Vocabulary
vocabulary = by_labels letters

-- Why an empty table refuses a text.
pub data NotEntered (text : List ℕ) : Type 0 where
  unreadable : Unreadable text → NotEntered text
  unlisted : {t : Tree} (d : IsFormula text t) → Unlisted vocabulary d.parses.tokens →
      NotEntered text
  too_many_nodes : {t : Tree} → IsFormula text t → 48 < size t → NotEntered text

-- An empty table takes a text, which is a formula of this many nodes.
pub record FormulaOf (text : List ℕ) (nodes : ℕ) : Type 0 where
  pub tree : Tree
  pub is : IsFormula text tree
  pub listed : AllListed vocabulary is.parses.tokens
  pub few : nodes ≤ 48
  pub nodes_are : nodes ≡ size tree

-- A table with that formula alone.
pub record TableOf (text : List ℕ) (nodes : Nodes) : Type 0 where
  pub formula : FormulaOf text (length (shapes nodes))
  pub alone : length (roots nodes) ≡ 1
  pub means : formula_of nodes 0 ≡ by_names vocabulary formula.tree

-- The memory covers so many states of the n that a grid over the cells is to have.
module _ (text : List ℕ) (cells : List Cell) (n w covered : ℕ) where
  -- Why nothing is marked.
  pub data Unmarked : Type 0 where
    no_grid : IsSome (grid_refusal cells n w 0) → Unmarked
    no_formula : NotEntered text → Unmarked
    few_memory : covered ≢ n → Unmarked

  -- A formula of this many nodes is marked.
  pub record Markable (nodes : ℕ) : Type 0 where
    pub grid : grid_refusal cells n w 0 ≡ None
    pub formula : FormulaOf text nodes
    pub memory : covered ≡ n

  -- The answer, and the memory before and after: 0 where nothing is marked, and then the memory is
  -- as before; else the number of nodes.
  abbrev pub MarkAnswer : (before after : List ℕ) → ℕ → Type 0
  MarkAnswer before after zero = Unmarked × (after ≡ before)
  MarkAnswer before after (suc k) = Markable (suc k)
