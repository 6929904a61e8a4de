-- How the program goes from line to line, with a study that holds the formulas.
use Rattle.std.specs.Prelude.{◌≡◌, ℕ, ◌∷◌, List, ◌++◌, Option, Ok, Result}
use Rattle.base.specs.declared.refusal.Refusal.{Refusal}
use Rattle.meaning.specs.DecidingPaths.{DecidingPath, HandedOutOf}
use Rattle.meaning.specs.Formula.{Formula}
use Rattle.meaning.specs.Lts.{Lts}
use Rattle.shelf.specs.Sheets.{Sheets}
use Rattle.model.specs.declared.cell.Cell.{Cell}
use Rattle.model.specs.Grids.{GridOver}
use Rattle.aut.specs.declared.header.Header.{Header}
use Rattle.study.specs.Runs.{Call, Run, OnlyFormulaOf, entered_in, NodesIn}
use Rattle.study.specs.declared.study.Study.{Study}
use Rattle.study.specs.declared.verdict.Verdict.{Verdict}
use Rattle.listing.specs.Airtimes.{by_airtime, tariffs, one_each}
use Rattle.listing.specs.Lines.{lines_of}
use Rattle.listing.specs.Listing.{Item, item_text, text_of, Judged, Answered, AllAnswered}
use Rattle.listing.specs.Texts.{path_text}

-- The study and the sheets are what calls over the model led to, in which so many formulas of so
-- many nodes were entered.
pub record Stands (M : Lts) (st : Study) (sh : Sheets) (formulas nodes : ℕ) : Type 0 where
  pub calls : List Call
  pub run : Run M calls st sh
  pub formulas_are : entered_in calls ≡ formulas
  pub nodes_are : NodesIn calls nodes

module _ (M : Lts) (names : List (List ℕ)) where
  -- The path of formula n after these calls is written.
  pub record Traced (cs : List Call) (n : ℕ) (st : Study) (sh : Sheets) (before after : List ℕ)
      : Type 0 where
    pub formula : Formula
    pub only : OnlyFormulaOf cs n formula
    pub path : Option DecidingPath
    pub handed_out : HandedOutOf by_airtime one_each M formula M.start path
    pub written : after ≡ before ++ path_text names path
    pub answer : Result (Option DecidingPath) Refusal
    pub run : Run M (Call.path n M.start tariffs answer ∷ cs) st sh

  -- Formula n is judged after these calls, and what is said of it is written.
  pub record Reported (cs : List Call) (n : ℕ) (st : Study) (sh : Sheets) (before after : List ℕ)
      : Type 0 where
    pub formula : Formula
    pub only : OnlyFormulaOf cs n formula
    pub item : Item
    pub judged : Judged M formula n item
    pub written : after ≡ before ++ item_text names item
    pub verdict : Verdict
    pub answer : Result (Option DecidingPath) Refusal
    pub run : Run M (Call.path n M.start tariffs answer ∷ Call.judge n (Ok verdict) ∷ cs) st sh

  -- One line is answered.
  pub record LineDone (formulas nodes : ℕ) (line : List ℕ) (st : Study) (sh : Sheets)
      (before after : List ℕ) : Type 0 where
    pub formulas_now : ℕ
    pub nodes_now : ℕ
    pub item : Item
    pub answered : Answered M names formulas nodes line formulas_now nodes_now item
    pub written : after ≡ before ++ item_text names item
    pub stands : Stands M st sh formulas_now nodes_now

  -- All lines of a text are answered.
  pub record LinesDone (formulas nodes : ℕ) (text before after : List ℕ) : Type 0 where
    pub items : List Item
    pub answered : AllAnswered M names formulas nodes (lines_of text) items
    pub written : after ≡ before ++ text_of names items

-- All lines of a text are answered by the grid over some cells.
pub record GridListed (cells : List Cell) (h : Header) (names : List (List ℕ))
    (text before after : List ℕ) : Type 0 where
  pub system : Lts
  pub over : GridOver system cells h.states 8 h.start
  pub lines : LinesDone system names 0 0 text before after
