-- A model at the front of a longer input: line one, and as many lines more as it says.
use Rattle.std.specs.Prelude.{◌≡◌, ℕ, zero, suc, ◌+◌, ◌-◌, ◌<◌, ◌≤◌, List, [], ◌∷◌, ◌++◌, length, take, Some, None, Ok, Err, Option, Result, ◌==◌, if◌then◌else◌}
use Rattle.std.specs.Option.{option_map}
use Rattle.base.specs.declared.refusal.Refusal.{Refusal}
use Rattle.base.specs.declared.refusal.Refusal.TheVariants.{Garbled, Range}
use Rattle.base.specs.declared.labels.Labels.{Labels}
use Rattle.model.specs.declared.cell.Cell.{Cell}
use Rattle.aut.specs.declared.header.Header.{Header}
use Rattle.aut.specs.Form.{LineOne}
use Rattle.aut.specs.Reading.{RightSize, TextRefused, TextRead, Unaltered}

-- how long the first k lines are, each with the byte 10 that ends it; nothing where there are fewer
abbrev pub lines_length : ℕ → List ℕ → Option ℕ
lines_length zero t = Some 0
lines_length (suc k) [] = None
lines_length (suc k) (b ∷ t) =
    option_map (λ n. n + 1) (if b == 10 then lines_length k t else lines_length (suc k) t)

-- the rest of a text is what follows its first line
pub record FirstLine (text rest : List ℕ) : Type 0 where
  pub shorter : length rest < length text
  pub lines : (k : ℕ) → lines_length (suc k) text ≡
      option_map (λ n. n + (length text - length rest)) (lines_length k rest)

-- The first n bytes of an input are a line one and the lines that it announces, whatever they hold.
pub record ModelFront (input : List ℕ) (n : ℕ) : Type 0 where
  pub header : Header
  pub first : List ℕ
  pub rest : List ℕ
  pub first_is : LineOne first header
  pub reads : input ≡ first ++ rest
  pub lines : option_map (λ k. length first + k) (lines_length header.transitions rest) ≡ Some n

-- The model at the front of an input is its first n bytes, and no other number of them.
pub record FrontEnds (input : List ℕ) (n : ℕ) : Type 0 where
  pub front : ModelFront input n
  pub only : (m : ℕ) → ModelFront input m → m ≡ n
  pub inside : n ≤ length input

module _ (input : List ℕ) (longest most w : ℕ) (names : List (List ℕ)) (cells : ℕ) where
  -- Why the front of an input is not read, in the order of the checks: where a model stands there,
  -- it is refused as a text of its own.
  pub data FrontRefused : Refusal → Type 0 where
    too_large : ¬ RightSize longest w input → FrontRefused Range
    no_model : RightSize longest w input → ((n : ℕ) → ¬ ModelFront input n) → FrontRefused Garbled
    refused : {n : ℕ} {e : Refusal} → RightSize longest w input → FrontEnds input n →
        TextRefused (take n input) most w names cells e → FrontRefused e

module _ (input : List ℕ) (longest most w : ℕ)
    (before after : Labels) (cells cells' : List Cell) where
  -- The model at the front of an input, its first n bytes, is read as a text of its own.
  pub record FrontTaken (h : Header) (n : ℕ) : Type 0 where
    pub size : RightSize longest w input
    pub ends : FrontEnds input n
    pub read : TextRead (take n input) most w before after cells cells' h

  -- What reading the front of an input of at most `longest` bytes does.
  abbrev pub FrontRead : Result (Header × ℕ) Refusal → Type 0
  FrontRead (Ok p) = FrontTaken p.0 p.1
  FrontRead (Err e) =
      FrontRefused input longest most w before (length cells) e
      × Unaltered before after cells cells'
