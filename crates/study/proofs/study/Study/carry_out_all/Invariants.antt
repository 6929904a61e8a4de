use Rattle.std.proofs.Common.{length, take}
use Rattle.study.specs.Laws.{shortest}
use Rattle.study.specs.Orders.{GoesOn, Spared}
use Rattle.study.proofs.study.Study.carry_out_all.Given as goal

abbrev pub invariant-loop-order : goal.invariant-loop-order
invariant-loop-order g l =
    GoesOn g.W.Weight.scale (shortest (length l.fn.work) (length l.fn.stem) (length l.fn.cycle)) (g.M.TransitionSystem.meaning l.model)
    l.fn.self (g.S.Shelf.sheets l.fn.shelf) (take l.order-index l.orders) l.answers.items l.self (g.S.Shelf.sheets l.shelf)
    × Spared (g.S.Shelf.sheets l.fn.shelf) (g.S.Shelf.sheets l.shelf)
