use Rattle.std.proofs.Common.{◌∷◌, Ok}
use Rattle.study.specs.Runs.{Call}
use Rattle.listing.proofs.Items.{on_ok, entered_formula, line_refused, line_done}
use Rattle.listing.proofs.answering.answer.Goals as goal

pub returns-in-Ok : goal.returns-in-Ok
returns-in-Ok g c =
    on_ok _ _ c.report.result
    (λ said formulas nodes stands.
    let M = g.M.TransitionSystem.meaning c.args.model.now in let names = c.args.labels.now in let line = c.args.line.now in
    let sh = g.S.Shelf.sheets c.args.shelf.now in let st = c.args.study.now in let n = c.in-Ok.number in
    let law = c.in-Ok.ensures.law M stands.calls sh stands.run in
    let run = c.in-Ok.ensures.run M stands.calls sh stands.run in
    line_done M names st sh line formulas nodes stands n law _ _ _ _
    (said (Call.enter line names (Ok n) ∷ stands.calls) run _ (entered_formula M names st sh line formulas nodes stands n law)))
    c.report.ensures

pub returns-in-Err : goal.returns-in-Err
returns-in-Err g c =
    on_ok _ _ c.push_refusal.result
    (λ written formulas nodes stands.
    let M = g.M.TransitionSystem.meaning c.args.model.now in let names = c.args.labels.now in let line = c.args.line.now in
    let sh = g.S.Shelf.sheets c.args.shelf.now in let st = c.args.study.now in let e = c.in-Err.why in
    line_refused M names st sh line formulas nodes stands _ e _ _
    (c.in-Err.ensures.law M stands.calls sh stands.run) (c.in-Err.ensures.run M stands.calls sh stands.run) written)
    c.push_refusal.ensures
