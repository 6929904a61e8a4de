use Rattle.std.proofs.Common.{arith}
use Rattle.bench_api.proofs.Rounds.{not_unmarked}
use Rattle.bench_api.proofs.marks.mark_rounds.Goals as goal

pub returns-in_err-mark : goal.returns-in_err-mark
returns-in_err-mark g c =
    not_unmarked _ g.S.Shelf.sheets (g.M.TransitionSystem.meaning c.args.model.now) c.args.nodes.now 0 _ _ _ c.loop.invariant
    (omega (arith, c.requires)) c.in_err-mark.ensures
