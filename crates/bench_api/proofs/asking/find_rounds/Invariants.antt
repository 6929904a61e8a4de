use Rattle.search.specs.Finding.{held}
use Rattle.paths.specs.Asking.{asked}
use Rattle.bench_api.specs.Asking.{PathIn}
use Rattle.bench_api.proofs.asking.find_rounds.Given as goal

abbrev pub invariant-loop : goal.invariant-loop
invariant-loop g l =
    PathIn (asked g.W.Weight.scale g.M.TransitionSystem.meaning g.S.Shelf.sheets l.question)
    (held l.fn.lists) (held l.lists) l.found
