use Rattle.std.proofs.Common.{Ok}
use Rattle.search.specs.Finding.{held}
use Rattle.bench_api.specs.Studying.{Studies}
use Rattle.bench_api.proofs.studying.study_rounds.Given as goal

abbrev pub invariant-loop : goal.invariant-loop
invariant-loop g l =
    Studies g.W.Weight.scale l.tariffs (g.M.TransitionSystem.meaning l.model) l.text l.labels
    (g.S.Shelf.sheets l.fn.shelf).covers (held l.fn.lists) (held l.lists) (Ok l.said)
