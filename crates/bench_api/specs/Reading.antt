-- What reading a text some times over leaves with a caller outside.
use Rattle.std.specs.Prelude.{◌≡◌, ℕ, zero, suc, List, [], ◌∷◌, ◌++◌, length, take, drop, codes}
use Rattle.std.specs.List.{flat_map}
use Rattle.base.specs.declared.labels.Labels.{Labels}
use Rattle.base.specs.declared.refusal.Refusal.{Refusal}
use Rattle.base.specs.Refusals.{number_of}
use Rattle.model.specs.declared.cell.Cell.{Cell}
use Rattle.aut.specs.declared.header.Header.{Header}
use Rattle.aut.specs.Reading.{TextRefused, TextRead}
use Rattle.bench_api.specs.declared.reading.Outcome.{Outcome}

-- what a fresh label list holds
abbrev pub tau_alone : List (List ℕ)
tau_alone = codes "tau" ∷ []

-- names as lines, each with a byte 10 after it
abbrev pub lines : List (List ℕ) → List ℕ
lines names = flat_map (λ name. name ++ 10 ∷ []) names

-- a text with bytes over its beginning, as far as it goes
abbrev pub put_over : List ℕ → List ℕ → List ℕ
put_over bytes text = take (length text) bytes ++ drop (length bytes) text

-- what is told of a text that is read
abbrev pub outcome_of : Header → List (List ℕ) → Outcome
outcome_of h names = record {
  refusal = 0;
  start = h.start;
  transitions = h.transitions;
  states = h.states;
  names = length names;
}

module _ (text : List ℕ) (w : ℕ) where
  -- A text is read into the cells, with the label list of tau alone.
  abbrev pub FreshRead : (cells cells' : List Cell) → Header → Labels → Type 0
  FreshRead cells cells' h labels = TextRead text 65536 w tau_alone labels cells cells' h

  -- It is refused, and the cells are as before.
  pub record FreshRefused (cells cells' : List Cell) (e : Refusal) : Type 0 where
    pub why : TextRefused text 65536 w tau_alone (length cells) e
    pub cells_are : cells' ≡ cells

  module _ (cells cells' : List Cell) (names names' : List ℕ) (before after : Outcome) where
    -- The outcome is what the text says, and the names stand over the beginning of the caller's.
    pub record AnsweredRead : Type 0 where
      pub header : Header
      pub labels : Labels
      pub read : FreshRead cells cells' header labels
      pub outcome_is : after ≡ outcome_of header labels
      pub names_are : names' ≡ put_over (lines labels) names

    -- The outcome has the number of the refusal, and all else is as before.
    pub record AnsweredRefused : Type 0 where
      pub refusal : Refusal
      pub refused : FreshRefused cells cells' refusal
      pub outcome_is : after ≡ record before { refusal = number_of refusal }
      pub names_are : names' ≡ names

    -- Nothing is read, and all is as before.
    pub record NothingRead : Type 0 where
      pub cells_are : cells' ≡ cells
      pub outcome_is : after ≡ before
      pub names_are : names' ≡ names

    -- By the rounds, and by the number of the refusal after them. However many rounds there are,
    -- they leave what one does.
    abbrev pub ReadAnswer : (rounds refusal : ℕ) → Type 0
    ReadAnswer zero number = NothingRead
    ReadAnswer (suc k) zero = AnsweredRead
    ReadAnswer (suc k) (suc number) = AnsweredRefused
