use Rattle.std.proofs.lemmas.Result.{err_from_is_err_and}
use Rattle.bench_api.proofs.Entry.{not_entered, entered}
use Rattle.bench_api.proofs.marks.nodes_of.Goals as goal

pub returns-in_err-enter : goal.returns-in_err-enter
returns-in_err-enter c =
    let why = not_entered c.args.text.now c.new-nodes.result c.new-nodes.ensures.nodes c.new-nodes.ensures.formulas _
    c.in_ok-labels.labels c.in_ok-labels.ensures c.in_err-enter.ensures.0 in
    let p = err_from_is_err_and c.from_residual-in_err-enter.result c.from_residual-in_err-enter.ensures.1 in
    rw p.1 why

pub returns : goal.returns
returns c =
    entered c.args.text.now c.new-nodes.result c.new-nodes.ensures.nodes c.new-nodes.ensures.formulas c.enter.new.nodes _
    c.in_ok-labels.labels c.in_ok-labels.ensures c.in_ok-enter.ensures
