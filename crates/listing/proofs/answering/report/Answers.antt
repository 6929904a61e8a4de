use Rattle.std.proofs.Common.{◌∷◌, Ok, inl, refl}
use Rattle.study.specs.Runs.{Call}
use Rattle.listing.proofs.Items.{on_ok, reported}
use Rattle.listing.proofs.answering.report.Goals as goal

pub returns-in_ok-push_verdict-in-Ok : goal.returns-in_ok-push_verdict-in-Ok
returns-in_ok-push_verdict-in-Ok g c =
    on_ok _ _ c.trace.result
    (λ trace calls run f k.
    let M = g.M.TransitionSystem.meaning c.args.model.now in
    reported M c.args.labels.now calls c.args.number c.judge.new.self (g.S.Shelf.sheets c.judge.new.shelf) c.in-Ok.verdict _ _ _
    (c.in-Ok.ensures.law M calls (λ x. refl) run) c.in_ok-push_verdict-in-Ok.ensures
    (trace (Call.judge c.args.number (Ok c.in-Ok.verdict) ∷ calls) (c.in-Ok.ensures.run calls run) (inl refl)))
    c.trace.ensures
