use Rattle.std.proofs.Common.{arith}
use Rattle.aut.proofs.Spelled.{short-name}
use Rattle.aut.proofs.putting.line_length.Goals as goal

pub returns-clause-few : goal.returns-clause-few
returns-clause-few c =
    omega (arith, c.number_length.ensures.few, c.number_length-2.ensures.few, short-name c.in_ok-name.name.now c.in_ok-name.ensures.named)
