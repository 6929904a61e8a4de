use Rattle.listing.proofs.Passing.{one_on, all_done}
use Rattle.listing.proofs.answering.answer_all.Goals as goal

pub loop-line-preserved : goal.loop-line-preserved
loop-line-preserved g c = record {
  so_far = λ formulas nodes stands.
      let M = g.M.TransitionSystem.meaning c.args.model.now in let names = c.args.labels.now in
      let k = c.loop-line.invariant.so_far formulas nodes stands in
      one_on M names formulas nodes c.args.text.now c.args.out.now.items c.loop-line.study c.answer.new.study
      (g.S.Shelf.sheets c.loop-line.shelf) (g.S.Shelf.sheets c.answer.new.shelf) c.loop-line.rest.now c.in-Some.more.now c.in-Some.line.now
      c.loop-line.out.items c.answer.new.out.items c.in-Some.ensures.0 k (c.in_ok-answer.ensures k.formulas_now k.nodes_now k.stands);
}

pub returns : goal.returns
returns g c formulas nodes stands =
    all_done (g.M.TransitionSystem.meaning c.args.model.now) c.args.labels.now formulas nodes c.args.text.now c.args.out.now.items
    c.loop-line.study (g.S.Shelf.sheets c.loop-line.shelf) c.loop-line.rest.now c.loop-line.out.items c.in_default.ensures
    (c.loop-line.invariant.so_far formulas nodes stands)
