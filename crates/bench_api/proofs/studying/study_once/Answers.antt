use Rattle.std.proofs.Common.{[], refl}
use Rattle.search.specs.Finding.{held}
use Rattle.bench_api.specs.Studying.{not_entered}
use Rattle.bench_api.proofs.Told.{unopened, still_fits, studied, pathless}
use Rattle.bench_api.proofs.studying.study_once.Goals as goal

pub returns-in-Err : goal.returns-in-Err
returns-in-Err g c =
    (unopened (g.M.TransitionSystem.meaning c.args.model.now) c.args.text.now c.args.labels.now (g.S.Shelf.sheets c.args.shelf.now) _ _ c.in-Err.ensures.link, refl)

pub returns-in-Err-enter : goal.returns-in-Err-enter
returns-in-Err-enter g c =
    let law = c.in-Err-enter.ensures.law in
    (not_entered (law (g.M.TransitionSystem.meaning c.args.model.now) [] (g.S.Shelf.sheets c.args.shelf.now) c.in-Ok.ensures.run), refl)

pub returns-in-Ok-path : goal.returns-in-Ok-path
returns-in-Ok-path g c =
    let M = g.M.TransitionSystem.meaning c.args.model.now in let sh = g.S.Shelf.sheets c.args.shelf.now in
    let enters = c.in-Ok-enter.ensures.run in let entered = enters M [] sh c.in-Ok.ensures.run in
    let judges = c.in-Ok-judge.ensures.run in let verdicts = c.in-Ok-judge.ensures.law in let paths = c.in-Ok-path.ensures.law in
    studied M c.args.text.now c.args.labels.now g.W.Weight.scale c.args.tariffs.now (held c.args.lists.now) (held c.path.new.lists)
    c.in-Ok-enter.number c.in-Ok-judge.verdict sh.covers c.judge.new.self (g.S.Shelf.sheets c.judge.new.shelf) c.in-Ok-path.found
    (verdicts M _ (λ e. refl) entered) (paths M _ (λ e. refl) (judges _ entered)) c.in-Ok-path.ensures.link

pub returns-in-Err-path : goal.returns-in-Err-path
returns-in-Err-path g c =
    let M = g.M.TransitionSystem.meaning c.args.model.now in let sh = g.S.Shelf.sheets c.args.shelf.now in
    let enters = c.in-Ok-enter.ensures.run in let entered = enters M [] sh c.in-Ok.ensures.run in
    let judges = c.in-Ok-judge.ensures.run in let paths = c.in-Err-path.ensures.law in
    pathless M c.args.text.now c.args.labels.now g.W.Weight.scale c.args.tariffs.now (held c.args.lists.now) (held c.path.new.lists)
    c.in-Ok-enter.number c.in-Ok-judge.verdict sh.covers c.judge.new.self (g.S.Shelf.sheets c.judge.new.shelf) c.in-Err-path.why
    (still_fits M c.args.text.now c.args.labels.now g.S.Shelf.sheets c.in-Ok-enter.number c.enter.new.self c.judge.new.self c.args.shelf.now c.judge.new.shelf _ c.in-Ok-judge.ensures.link)
    (paths M _ (λ e. refl) (judges _ entered)) c.in-Err-path.ensures.link
