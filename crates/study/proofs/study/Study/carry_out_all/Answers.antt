use Rattle.std.proofs.Common.{◌≡◌, length, arith}
use Rattle.study.specs.Laws.{shortest}
use Rattle.study.proofs.Orders.{goes_next, by_room, spared_on}
use Rattle.study.proofs.study.Study.carry_out_all.Goals as goal

pub returns-in_err-answer-clause-spared : goal.returns-in_err-answer-clause-spared
returns-in_err-answer-clause-spared g c = spared_on c.loop-order.invariant.1 c.in_err-answer.ensures.spared

pub returns-in_err-push-clause-spared : goal.returns-in_err-push-clause-spared
returns-in_err-push-clause-spared g c = spared_on c.loop-order.invariant.1 c.in_ok-answer.ensures.spared

pub loop-order-preserved : goal.loop-order-preserved
loop-order-preserved g c =
    let scale = g.W.Weight.scale in let M = g.M.TransitionSystem.meaning c.args.model.now in
    let sh = g.S.Shelf.sheets c.loop-order.shelf in let sh' = g.S.Shelf.sheets c.carry_out_one.new.shelf in
    let e : shortest (length c.loop-order.work) (length c.loop-order.stem) (length c.loop-order.cycle)
    ≡ shortest (length c.args.work.now) (length c.args.stem.now) (length c.args.cycle.now) = omega arith in
    rw c.in_ok-push.ensures.items (
      goes_next scale _ M c.args.self.now c.loop-order.self _ (g.S.Shelf.sheets c.args.shelf.now) sh sh' c.args.orders.now c.loop-order.order-index c.order-item.result
          c.loop-order.answers.items c.in_ok-answer.answer c.loop-order-test.true c.order-item.is c.loop-order.invariant.0
          (by_room scale _ M _ e c.loop-order.self _ sh sh' _ _ c.in_ok-answer.ensures.goes),
      spared_on c.loop-order.invariant.1 c.in_ok-answer.ensures.spared,
    )
