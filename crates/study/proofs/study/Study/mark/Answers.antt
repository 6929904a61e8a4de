use Rattle.std.proofs.Common.{refl}
use Rattle.study.proofs.Links.{now_judged}
use Rattle.study.proofs.study.Study.mark.Goals as goal

pub returns : goal.returns
returns g c =
    let m = c.in_ok-span.ensures in
    now_judged (g.M.TransitionSystem.meaning c.args.model.now) c.args.number c.args.self.now _ (g.S.Shelf.sheets c.args.shelf.now)
    (g.S.Shelf.sheets c.mark_nodes.new.shelf) c.read_verdict.result m.0 m.1 c.in_ok-span.span.root m.2 c.read_verdict.ensures refl refl refl
