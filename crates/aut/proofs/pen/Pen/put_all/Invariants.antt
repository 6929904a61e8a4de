use Rattle.std.proofs.Common.{take}
use Rattle.aut.specs.Pens.{joined, Wrote}
use Rattle.aut.proofs.pen.Pen.put_all.Given as goal

abbrev pub invariant-loop-piece : goal.invariant-loop-piece
invariant-loop-piece l = Wrote l.initial.self (joined (take l.piece-index l.pieces)) l.self
