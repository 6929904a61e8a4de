use Rattle.std.proofs.Common.{Ok, Err, refl, ap}
use Rattle.study.proofs.Orders.{goes_enter, goes_judge, goes_ask, goes_path, spared_judge, spared_none}
use Rattle.study.proofs.study.Study.carry_out_one.Goals as goal

pub returns-in-Enter-clause-goes : goal.returns-in-Enter-clause-goes
returns-in-Enter-clause-goes g c =
    goes_enter g.W.Weight.scale _ (g.M.TransitionSystem.meaning c.args.model.now) c.args.self.now _ (g.S.Shelf.sheets c.args.shelf.now) c.args.order
    c.in-Enter.text c.in-Enter.labels _ c.in-Enter.is c.enter.ensures.law c.enter.ensures.run

pub returns-in-Enter-clause-spared : goal.returns-in-Enter-clause-spared
returns-in-Enter-clause-spared g c = spared_none (g.S.Shelf.sheets c.args.shelf.now)

pub returns-in-Judge-clause-goes : goal.returns-in-Judge-clause-goes
returns-in-Judge-clause-goes g c =
    goes_judge g.W.Weight.scale _ (g.M.TransitionSystem.meaning c.args.model.now) c.args.self.now _ (g.S.Shelf.sheets c.args.shelf.now) _ c.args.order
    c.in-Judge.formula _ c.in-Judge.is c.judge.ensures.law c.judge.ensures.run

pub returns-in-Judge-clause-spared : goal.returns-in-Judge-clause-spared
returns-in-Judge-clause-spared g c =
    spared_judge g.S.Shelf.sheets (g.M.TransitionSystem.meaning c.args.model.now) c.in-Judge.formula c.args.self.now _ c.args.shelf.now _ _ c.judge.ensures.link

pub returns-in-Ask-clause-goes : goal.returns-in-Ask-clause-goes
returns-in-Ask-clause-goes g c =
    goes_ask g.W.Weight.scale _ (g.M.TransitionSystem.meaning c.args.model.now) c.args.self.now (g.S.Shelf.sheets c.args.shelf.now) c.args.order
    c.in-Ask.formula c.in-Ask.state _ c.in-Ask.is c.ask.ensures.law c.ask.ensures.run

pub returns-in_ok-path-in-Ok-clause-goes : goal.returns-in_ok-path-in-Ok-clause-goes
returns-in_ok-path-in-Ok-clause-goes g c =
    let M = g.M.TransitionSystem.meaning c.args.model.now in let law = c.in-Ok.ensures.law in
    goes_path g.W.Weight.scale _ M c.args.self.now (g.S.Shelf.sheets c.args.shelf.now) c.args.order c.in-Path.formula c.in-Path.state c.in-Path.tariffs
    (Ok c.in_ok-path-in-Ok.path) _ c.in-Path.is (ap (λ p. Ok p) c.in_ok-path-in-Ok.ensures)
    (λ cs run. law M cs (λ e. refl) run) c.in-Ok.ensures.run

pub returns-in-Err-clause-goes : goal.returns-in-Err-clause-goes
returns-in-Err-clause-goes g c =
    let M = g.M.TransitionSystem.meaning c.args.model.now in let law = c.in-Err.ensures.law in
    goes_path g.W.Weight.scale _ M c.args.self.now (g.S.Shelf.sheets c.args.shelf.now) c.args.order c.in-Path.formula c.in-Path.state c.in-Path.tariffs
    (Err c.in-Err.refusal) _ c.in-Path.is refl (λ cs run. law M cs (λ e. refl) run) c.in-Err.ensures.run
