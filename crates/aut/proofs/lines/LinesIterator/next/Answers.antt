use Rattle.std.proofs.Common.{◌<◌, length, sym, arith}
use Rattle.aut.specs.Views.{line_of}
use Rattle.aut.proofs.Readings.{next_shorter}
use Rattle.aut.proofs.lines.LinesIterator.next.Goals as goal

-- a line takes bytes
pub returns-clause-goes : goal.returns-clause-goes
returns-clause-goes c =
    let rest = c.in-Some.rest.now in
    let less : length c.in-Some.rest.now < length c.args.self.now.text.now = next_shorter c.args.self.now.text.now (line_of c.in-Some.line) rest (sym c.in-Some.ensures) in
    record { on = λ _. (tt, tt, omega (arith, less)); keeps = tt; rests = λ _. tt }
