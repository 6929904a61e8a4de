use Rattle.std.proofs.Common.{[], take, arith}
use Rattle.std.proofs.lemmas.List.Folds.{length-flat_map-take}
use Rattle.aut.specs.Pens.{joined}
use Rattle.aut.proofs.Pens.{room_left}
use Rattle.aut.proofs.pen.Pen.put_all.Goals as goal

pub put-requires : goal.put-requires
put-requires c =
    let i = c.loop-piece.piece-index in let ps = c.args.pieces.now in
    omega (arith, c.requires, room_left c.args.self.now c.loop-piece.self (joined (take i ps)) c.loop-piece.invariant, length-flat_map-take (λ p. p.now) ps i record { ref_ptr = (0, 0); now = [] } c.loop-piece-test.true)
