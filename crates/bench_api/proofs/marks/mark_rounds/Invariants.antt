use Rattle.std.proofs.Common.{◌≡◌}
use Rattle.bench_api.proofs.marks.mark_rounds.Given as goal

abbrev pub invariant-loop : goal.invariant-loop
invariant-loop g l = (g.S.Shelf.sheets l.shelf).covers ≡ (g.M.TransitionSystem.meaning l.model).states
