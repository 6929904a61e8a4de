use Rattle.std.proofs.Common.{ℕ, length}
use Rattle.listing.specs.Steps.{Stands}
use Rattle.listing.proofs.Passing.{SoFar}
use Rattle.listing.proofs.answering.answer_all.Given as goal

abbrev pub invariant-loop-line : goal.invariant-loop-line
invariant-loop-line g l = record {
  so_far : (formulas nodes : ℕ) → Stands (g.M.TransitionSystem.meaning l.model) l.initial.study (g.S.Shelf.sheets l.initial.shelf) formulas nodes →
      SoFar (g.M.TransitionSystem.meaning l.model) l.labels formulas nodes l.text l.initial.out.items l.study (g.S.Shelf.sheets l.shelf) l.rest l.out.items;
}

abbrev pub decreases-loop-line : goal.decreases-loop-line
decreases-loop-line g l = length l.rest
