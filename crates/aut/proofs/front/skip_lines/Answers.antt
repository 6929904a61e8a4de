use Rattle.std.proofs.Common.{length, ◌∙◌, arith}
use Rattle.aut.proofs.Fronts.{further}
use Rattle.aut.proofs.front.skip_lines.Goals as goal

pub loop-preserved : goal.loop-preserved
loop-preserved c =
    let f = c.in_ok-rest.ensures in
    record {
      within = omega (arith, c.loop.invariant.within, f.shorter);
      left = further (length c.args.text.now) c.args.lines c.loop.counter c.loop.rest.now c.in_ok-rest.rest.now c.loop-test.true c.loop.invariant.within f ∙ c.loop.invariant.left;
    }
