-- A written text reads back as the same transitions.
use Rattle.std.specs.Prelude.{◌≡◌, ℕ, ◌+◌, ◌*◌, ◌<◌, ◌≤◌, ◌↔◌, IsTrue, List, map, length, None, Ok, Result}
use Rattle.std.specs.Option.{option_map}
use Rattle.std.specs.List.{slice_get}
use Rattle.base.specs.declared.refusal.Refusal.{Refusal}
use Rattle.base.specs.declared.labels.Labels.{Labels}
use Rattle.base.specs.Listing.{lawful}
-- a transition of a model, under another name than one of a text
use Rattle.meaning.specs.Lts.{Lts, Transition as Moves}
use Rattle.model.specs.declared.cell.Cell.{Cell}
use Rattle.model.specs.Cells.{slot_at, grid_refusal}
use Rattle.model.specs.Grids.{GridOver}
use Rattle.aut.specs.declared.header.Header.{Header}
use Rattle.aut.specs.Form.{Transition}
use Rattle.aut.specs.Reading.{Read}
use Rattle.aut.specs.Writing.{Move, moves, moves_of, name_at, text_of, write_answer}

-- a transition of a model, as a line of the text has it
abbrev pub as_line : List (List ℕ) → Move → Transition
as_line names m = record { from = m.from; label = name_at names m.label; to = m.to }

abbrev pub as_lines : List (List ℕ) → List Move → List Transition
as_lines names ms = map (as_line names) ms

-- line one of the text of a model
abbrev pub header_for : Lts → Header
header_for M = record { start = M.start; transitions = length (moves M); states = M.states }

module _ (M : Lts) (w : ℕ) (before after : Labels) (cells : List Cell) where
  -- What reading the text of a model gives: no refusal, no new label, and cells in which slot k of
  -- each state holds the model's k-th transition there. A grid can stand over them, and every grid
  -- over them has exactly the transitions of the model.
  pub record Back (r : Result Header Refusal) : Type 0 where
    pub answer : r ≡ Ok (header_for M)
    pub labels : after ≡ before
    pub slots : (s k : ℕ) → s < M.states → k < w →
        slot_at cells (s * w + k) ≡ option_map (λ m. (m.label, m.to)) (slice_get (moves_of M s) k)
    pub grid : grid_refusal cells M.states w M.start ≡ None
    pub transitions : (G : Lts) → GridOver G cells M.states w M.start →
        (s a t : ℕ) → Moves M s a t ↔ Moves G s a t

-- A model with at most S transitions a state is written by a label list, and its text is read with
-- the same list into enough cells.
abbrev pub ReadsBack : Type 0
ReadsBack = (M : Lts) (before after : Labels) (room w : ℕ) (cells cells' : List Cell)
    (r : Result Header Refusal)
    → IsTrue (lawful before) → length before ≤ 64
    → write_answer M before room ≡ Ok (length (text_of M before))
    → 1 ≤ w → w ≤ 64 → ((s : ℕ) → s < M.states → length (moves_of M s) ≤ w)
    → M.states * w ≤ length cells
    → Read (text_of M before) 65536 w before after cells cells' r
    → Back M w before after cells' r
