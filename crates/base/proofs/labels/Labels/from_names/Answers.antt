use Rattle.std.proofs.Common.{◌+◌, length, drop, sym, ap, ◌∙◌, rules, arith}
use Rattle.base.specs.Listing.{with_names}
use Rattle.base.proofs.Adding.{fits_still, one_more, one_too_many, none_left}
use Rattle.base.proofs.labels.Labels.from_names.Goals as goal

pub loop-name-init : goal.loop-name-init
loop-name-init c = (ap (λ names. with_names names c.args.names.now) (sym c.new-labels.ensures), omega (arith, ap length c.new-labels.ensures))

pub returns-in_err-add : goal.returns-in_err-add
returns-in_err-add c =
    let e = one_too_many c.args.names.now c.loop-name.name-index c.loop-name.labels c.loop-name.invariant.0 c.name-item.result c.loop-name-test.true c.name-item.is c.in_err-add.ensures.0 in search rules

pub loop-name-preserved : goal.loop-name-preserved
loop-name-preserved c =
    let added = c.in_ok-add.ensures in (
      one_more c.args.names.now c.loop-name.name-index c.loop-name.labels c.loop-name.invariant.0 c.name-item.result c.loop-name-test.true c.name-item.is
          ∙ ap (λ names. with_names names (drop (c.loop-name.name-index + 1) c.args.names.now)) (sym added.1),
      omega (arith, ap length added.1, fits_still c.name-item.result c.loop-name.labels added.0 c.loop-name.invariant.1),
    )

pub returns : goal.returns
returns c =
    let e = none_left c.args.names.now c.loop-name.name-index c.loop-name.labels c.loop-name.invariant.0 (omega arith) in
    (omega (arith, ap length e), sym e)
