use Rattle.std.proofs.Common.{refl}
use Rattle.listing.proofs.Airtimes.{ticks, told}
use Rattle.listing.proofs.Items.{on_ok, traced}
use Rattle.listing.proofs.answering.trace.Goals as goal

pub push_path-requires : goal.push_path-requires
push_path-requires g c = c.in-Ok.ensures.link.2.2.counted

pub returns-in-Ok : goal.returns-in-Ok
returns-in-Ok g c =
    on_ok _ _ c.push_path.result
    (λ e calls run judged.
    let M = g.M.TransitionSystem.meaning c.args.model.now in
    traced M c.args.labels.now _ ticks told calls c.args.number _ _ judged _ c.start.result _ _ _ c.start.ensures
    (c.in-Ok.ensures.law M calls (λ x. refl) run) (c.in-Ok.ensures.run calls run) e)
    c.push_path.ensures
