use Rattle.std.proofs.Common.{◌≡◌, ◌≤◌, map}
use Rattle.formula.specs.Shapes.{shape, formula_at}
use Rattle.paths.specs.Cores.{core}
use Rattle.paths.proofs.reading.core_of.Given as goal

abbrev pub invariant-loop-number : goal.invariant-loop-number
invariant-loop-number l =
    record {
      first : l.fn.span.first ≤ l.number;
      last : l.number ≤ l.fn.span.root;
      same : core (formula_at (map shape l.nodes) l.fn.span.root) ≡ core (formula_at (map shape l.nodes) l.number);
    }

abbrev pub decreases-loop-number : goal.decreases-loop-number
decreases-loop-number l = l.number
