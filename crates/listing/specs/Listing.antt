-- THE LISTING: what the program prints for an input.
use Rattle.std.specs.Prelude.{◌≡◌, ℕ, suc, ◌+◌, ◌<◌, ◌≤◌, ◌⊎◌, Bool, List, [], ◌∷◌, ◌++◌, Option}
use Rattle.base.specs.declared.refusal.Refusal.{Refusal}
use Rattle.base.specs.declared.refusal.Refusal.TheVariants.{Grammar, Nameless, Full}
use Rattle.meaning.specs.DecidingPaths.{DecidingPath, HandedOutOf}
use Rattle.meaning.specs.Formula.{Formula}
use Rattle.meaning.specs.Laws.{RightMarks}
use Rattle.meaning.specs.Lts.{Lts}
use Rattle.meaning.specs.Verdicts.{Verdict, verdict}
use Rattle.formula.specs.Entering.{IsFormula, Unreadable, AllListed, Unlisted}
use Rattle.formula.specs.Formulas.{by_names, size}
use Rattle.formula.specs.Trees.{Tree}
use Rattle.formula.specs.Vocabulary.{by_labels}
use Rattle.listing.specs.Airtimes.{by_airtime, one_each}
use Rattle.listing.specs.Lines.{lines_of}
use Rattle.listing.specs.Models.{ModelRefused, ModelRead}
use Rattle.listing.specs.Texts.{refused_text, verdict_text, path_text}

-- what is said of a line, or of a model that is refused
pub data Item : Type 0 where
  refusal : Refusal → Item
  report : ℕ → Verdict → Option DecidingPath → Item

-- and how it is printed
abbrev pub item_text : List (List ℕ) → Item → List ℕ
item_text names (refusal e) = refused_text e
item_text names (report n v p) = verdict_text n v ++ path_text names p

abbrev pub text_of : List (List ℕ) → List Item → List ℕ
text_of names [] = []
text_of names (x ∷ xs) = item_text names x ++ text_of names xs

-- A verdict on a formula: whether it holds at the start, at how many states, of how many, and that
-- in thousandths.
abbrev pub VerdictOn : Lts → Formula → Verdict → Type 0
VerdictOn M f v = (X : ℕ → Bool) × RightMarks M f X × (v ≡ verdict M X)

-- Why a line is refused after so many formulas and nodes: 5 for what is no formula, 6 for a name
-- that the model lacks, 7 for the ninth formula or the 49th node.
pub data LineRefused (names : List (List ℕ)) (formulas nodes : ℕ) (line : List ℕ)
    : Refusal → Type 0 where
  no_formula : Unreadable line → LineRefused names formulas nodes line Grammar
  nameless : {t : Tree} → (d : IsFormula line t) → Unlisted (by_labels names) d.parses.tokens →
      LineRefused names formulas nodes line Nameless
  full : {t : Tree} → (d : IsFormula line t) → AllListed (by_labels names) d.parses.tokens →
      (8 ≤ formulas) ⊎ (48 < nodes + size t) → LineRefused names formulas nodes line Full

-- A line is entered: it is the formula of this tree, its names are the model's, and there is room.
pub record LineRead (names : List (List ℕ)) (formulas nodes : ℕ) (line : List ℕ) (t : Tree)
    : Type 0 where
  pub is : IsFormula line t
  pub listed : AllListed (by_labels names) is.parses.tokens
  pub few : formulas < 8
  pub small : nodes + size t ≤ 48

-- What is said of a formula: its verdict, and a deciding path from the start, if there is one.
pub data Judged (M : Lts) (f : Formula) (n : ℕ) : Item → Type 0 where
  by_meaning : {v : Verdict} {p : Option DecidingPath} → VerdictOn M f v →
      HandedOutOf by_airtime one_each M f M.start p → Judged M f n (report n v p)

module _ (M : Lts) (names : List (List ℕ)) where
  -- What is said of a line after so many formulas and nodes, and how many there are after it. A
  -- refused line takes no number.
  pub data Answered (formulas nodes : ℕ) (line : List ℕ) : ℕ → ℕ → Item → Type 0 where
    refused : {e : Refusal} → LineRefused names formulas nodes line e →
        Answered formulas nodes line formulas nodes (refusal e)
    judged : {t : Tree} {x : Item} → LineRead names formulas nodes line t →
        Judged M (by_names (by_labels names) t) formulas x →
        Answered formulas nodes line (suc formulas) (nodes + size t) x

  -- What is said of lines, one after another.
  pub data AllAnswered : ℕ → ℕ → List (List ℕ) → List Item → Type 0 where
    none : {formulas nodes : ℕ} → AllAnswered formulas nodes [] []
    more : {formulas nodes formulas' nodes' : ℕ} {line : List ℕ} {lines : List (List ℕ)}
        {x : Item} {xs : List Item} →
        Answered formulas nodes line formulas' nodes' x → AllAnswered formulas' nodes' lines xs →
        AllAnswered formulas nodes (line ∷ lines) (x ∷ xs)

-- What is said of an input, by the names of its labels. After a refused model there is no more.
pub data Said (input : List ℕ) : List (List ℕ) → List Item → Type 0 where
  refused : {e : Refusal} → ModelRefused input e → Said input [] (refusal e ∷ [])
  read : {names : List (List ℕ)} {M : Lts} {rest : List ℕ} {xs : List Item} →
      ModelRead input names M rest → AllAnswered M names 0 0 (lines_of rest) xs →
      Said input names xs

pub record Listing (input out : List ℕ) : Type 0 where
  pub names : List (List ℕ)
  pub items : List Item
  pub said : Said input names items
  pub is : out ≡ text_of names items
