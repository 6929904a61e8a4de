use Rattle.std.proofs.Common.{◌≤◌, length}
use Rattle.formula.specs.Chaining.{MayRead, MayJoin, More, Chain}
use Rattle.formula.specs.Places.{unread}
use Rattle.formula.proofs.cursor.Cursor.chain.Given as goal

abbrev pub invariant-loop-next : goal.invariant-loop-next
invariant-loop-next g l =
    (length (unread l.left.rest) ≤ length (unread l.self.tokens))
    × ((r : _) (s : _) →
    More (MayRead g.F.Fn l.operand) (MayJoin g.J.Fn l.join) l.connective l.left l.state r s →
    Chain (MayRead g.F.Fn l.operand) (MayJoin g.J.Fn l.join) l.connective l.self.tokens l.fn.state r s)

abbrev pub decreases-loop-next : goal.decreases-loop-next
decreases-loop-next g l = length (unread l.left.rest)
