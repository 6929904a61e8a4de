-- The model at the front of an input: the transition system that its text means, or why it is
-- refused.
use Rattle.std.specs.Prelude.{◌≡◌, ℕ, ◌<◌, ◌≤◌, List, [], ◌∷◌, length, take, drop, codes}
use Rattle.base.specs.declared.refusal.Refusal.{Refusal}
use Rattle.base.specs.declared.refusal.Refusal.TheVariants.{Garbled, Range, Crowded}
use Rattle.meaning.specs.Lts.{Lts}
use Rattle.aut.specs.declared.header.Header.{Header}
use Rattle.aut.specs.Form.{Transition, Form}
use Rattle.aut.specs.Front.{ModelFront, FrontEnds}
use Rattle.aut.specs.Reading.{met, InRange, HasRoom}
use Rattle.aut.specs.Systems.{IsSystem}

-- the labels before reading: tau alone
abbrev pub tau_alone : List (List ℕ)
tau_alone = codes "tau" ∷ []

-- Why the text of a model is refused: 2 where it has not the form, 3 for a number outside its
-- limits (a model has 512 states at most), 4 for want of room (at most 8 transitions at a state,
-- and 63 labels besides tau).
pub data TextRefused (text : List ℕ) : Refusal → Type 0 where
  no_form : ((h : Header) (ls : List Transition) → ¬ Form text h ls) → TextRefused text Garbled
  out_of_range : {h : Header} {ls : List Transition} → Form text h ls → ¬ InRange 512 h ls →
      TextRefused text Range
  no_room : {h : Header} {ls : List Transition} → Form text h ls → InRange 512 h ls →
      ¬ HasRoom h.states 8 tau_alone ls → TextRefused text Crowded

-- Why the model of an input is refused: 3 for more than 32,768 bytes, 2 where no model stands at
-- the front, else as its text is.
pub data ModelRefused (input : List ℕ) : Refusal → Type 0 where
  too_long : 32768 < length input → ModelRefused input Range
  no_model : length input ≤ 32768 → ((n : ℕ) → ¬ ModelFront input n) → ModelRefused input Garbled
  refused : {n : ℕ} {e : Refusal} → length input ≤ 32768 → FrontEnds input n →
      TextRefused (take n input) e → ModelRefused input e

-- The model of an input is read: it means this transition system, its labels have these names, and
-- these bytes follow it.
pub record ModelRead (input : List ℕ) (names : List (List ℕ)) (M : Lts) (rest : List ℕ)
    : Type 0 where
  pub short : length input ≤ 32768
  pub size : ℕ
  pub ends : FrontEnds input size
  pub header : Header
  pub lines : List Transition
  pub form : Form (take size input) header lines
  pub range : InRange 512 header lines
  pub room : HasRoom header.states 8 tau_alone lines
  pub named : names ≡ met tau_alone lines
  pub means : IsSystem header lines names M
  pub follows : rest ≡ drop size input
