use Rattle.std.proofs.Common.{◌≤◌, ap, ◌∙◌, arith}
use Rattle.meaning.specs.Lts.{count_below}
use Rattle.meaning.proofs.Deadlocks.{count_fits}
use Rattle.study.proofs.Links.{verdict_read}
use Rattle.study.proofs.verdict.read_verdict.Goals as goal

pub overflow_mul-result : goal.overflow_mul-result
overflow_mul-result g c =
    let sh = g.S.Shelf.sheets c.args.shelf.now in
    let M = g.M.TransitionSystem.meaning c.args.model.now in
    let few : M.states ≤ 65536 = M.lawful.few_states in
    omega (arith, c.count-marked.ensures, count_fits (sh.on c.args.sheet) sh.covers, c.requires, few)

pub returns : goal.returns
returns g c =
    let M = g.M.TransitionSystem.meaning c.args.model.now in
    let on = (g.S.Shelf.sheets c.args.shelf.now).on c.args.sheet in
    verdict_read M on _ _ _ (c.look.ensures ∙ ap on c.start.ensures) (c.count-marked.ensures ∙ ap (count_below on) c.requires) c.states-total.ensures
