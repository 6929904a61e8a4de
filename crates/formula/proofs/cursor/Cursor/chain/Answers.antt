use Rattle.std.proofs.Common.{Some, None, refl, arith}
use Rattle.formula.specs.Chaining.{ends, breaks, goes_on, fails, begins}
use Rattle.formula.proofs.Findings.{past_there}
use Rattle.formula.proofs.cursor.Cursor.chain.Goals as goal

pub returns-in_err-left : goal.returns-in_err-left
returns-in_err-left g c = rw c.from_residual.ensures (fails (_, _, refl, c.in_err-left.ensures, refl))

pub loop-next-init : goal.loop-next-init
loop-next-init g c =
    (c.requires.onward _ _ _ _ (_, _, refl, c.in_ok-left.ensures, refl), λ r s m. begins (_, _, refl, c.in_ok-left.ensures, refl) m)

pub returns-in_err-right : goal.returns-in_err-right
returns-in_err-right g c =
    let e = past_there c.args.self.now _ c.loop-next.left.rest c.args.connective (Some c.in-Some.next) c.moved_to.ensures c.in-Some.ensures in
    c.loop-next.invariant.1 _ _ (rw c.from_residual-in_err-right.ensures (breaks e.0 (_, _, refl, c.in_err-right.ensures, refl)))

pub loop-next-smaller : goal.loop-next-smaller
loop-next-smaller g c =
    let e = past_there c.args.self.now _ c.loop-next.left.rest c.args.connective (Some c.in-Some.next) c.moved_to.ensures c.in-Some.ensures in
    omega (arith, e.1, c.requires.onward _ _ _ _ (_, _, refl, c.in_ok-right.ensures, refl))

pub loop-next-preserved : goal.loop-next-preserved
loop-next-preserved g c =
    let e = past_there c.args.self.now _ c.loop-next.left.rest c.args.connective (Some c.in-Some.next) c.moved_to.ensures c.in-Some.ensures in (
      omega (arith, c.loop-next.invariant.0, e.1, c.requires.onward _ _ _ _ (_, _, refl, c.in_ok-right.ensures, refl)),
      λ r s m. c.loop-next.invariant.1 r s (goes_on e.0 (_, _, refl, c.in_ok-right.ensures, refl) (_, _, refl, c.join.ensures, refl) m),
    )

pub returns : goal.returns
returns g c =
    let e = past_there c.args.self.now _ c.loop-next.left.rest c.args.connective None c.moved_to.ensures c.in_default.ensures in
    c.loop-next.invariant.1 _ _ (ends e)
