use Rattle.listing.proofs.Items.{on_ok}
use Rattle.listing.proofs.Fronts.{over_size}
use Rattle.listing.proofs.answering.list_model.Goals as goal

pub returns-in-Ok : goal.returns-in-Ok
returns-in-Ok c =
    on_ok _ _ c.list_formulas.result
    (λ l. record { system = _; over = over_size _ c.args.cells.now c.args.header c.size.result c.size.ensures c.in-Ok.ensures.1; lines = l })
    c.list_formulas.ensures
