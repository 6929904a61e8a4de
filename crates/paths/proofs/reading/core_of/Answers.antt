use Rattle.std.proofs.Common.{◌≡◌, sym, ◌∙◌, arith}
use Rattle.std.proofs.lemmas.List.{get_or_default}
use Rattle.formula.specs.declared.node.Node.TheVariants.{True, Not}
use Rattle.paths.specs.Cores.{node_at}
use Rattle.paths.proofs.Bridging.{below, same_core}
use Rattle.paths.proofs.reading.core_of.Goals as goal

pub loop-number-smaller : goal.loop-number-smaller
loop-number-smaller c =
    let v = c.loop-number.invariant in let i = c.loop-number.number in let xs = c.args.nodes.now in
    let is : node_at xs i ≡ Not c.in-Not.child = sym (get_or_default xs i _ True (omega arith)) ∙ c.in-Not.is in
    (below xs c.args.span.first i (omega arith) (c.requires.own i v.first v.last) c.in-Not.child is).1

pub loop-number-preserved : goal.loop-number-preserved
loop-number-preserved c =
    let v = c.loop-number.invariant in let i = c.loop-number.number in let xs = c.args.nodes.now in
    let is : node_at xs i ≡ Not c.in-Not.child = sym (get_or_default xs i _ True (omega arith)) ∙ c.in-Not.is in
    let b = below xs c.args.span.first i (omega arith) (c.requires.own i v.first v.last) c.in-Not.child is in
    record {
      first = b.0;
      last = omega (arith, b.1, v.last);
      same = v.same ∙ same_core xs c.args.span.first i (omega arith) (c.requires.own i v.first v.last) c.in-Not.child is;
    }

pub returns-clause-no_not : goal.returns-clause-no_not
returns-clause-no_not c k e = c.in_default.not-Not k (get_or_default c.args.nodes.now c.loop-number.number _ True (omega arith) ∙ e)
