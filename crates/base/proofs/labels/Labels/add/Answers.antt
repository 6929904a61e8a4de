use Rattle.std.proofs.Common.{ok_or, sym, ◌∙◌, ap}
use Rattle.base.specs.Listing.{action_of}
use Rattle.base.specs.declared.refusal.Refusal.TheVariants.{Crowded}
use Rattle.base.proofs.Adding.{pushed-lawful, pushed-adds, had_room}
use Rattle.base.proofs.labels.Labels.add.Goals as goal

pub invariant_of-self : goal.invariant_of-self
invariant_of-self c =
    let new = ap (action_of c.args.name) c.self.view_is ∙ ap (λ y. action_of y c.args.self.now) (sym c.as_bytes.ensures.bytes) ∙ sym c.in_default.ensures in
    pushed-lawful c.self.inside.names c.args.name new c.push.new.self c.push.ensures.after c.self.invariant c.as_bytes.ensures.named

pub invariant_of-self-2 : goal.invariant_of-self-2
invariant_of-self-2 c =
    let new = ap (action_of c.args.name) c.self.view_is ∙ ap (λ y. action_of y c.args.self.now) (sym c.as_bytes.ensures.bytes) ∙ sym c.in_default.ensures in
    pushed-lawful c.self.inside.names c.args.name new c.push.new.self c.push.ensures.after c.self.invariant c.as_bytes.ensures.named

pub returns : goal.returns
returns c =
    let new = ap (action_of c.args.name) c.self.view_is ∙ ap (λ y. action_of y c.args.self.now) (sym c.as_bytes.ensures.bytes) ∙ sym c.in_default.ensures in
    let room = had_room Crowded _ (ap (λ o. ok_or o Crowded) (sym c.push.ensures.answer) ∙ sym c.ok_or.ensures.value ∙ c.in_ok-ok_or.was) in
    rw (c.len-action.ensures.names, ← c.self.view_is) (pushed-adds c.self.inside.names c.args.name new c.push.new.self c.push.ensures.after room)
