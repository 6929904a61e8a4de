use Rattle.std.proofs.Common.{rules}
use Rattle.aut.proofs.Lengths.{digits_of_power}
use Rattle.aut.proofs.putting.number_length.Goals as goal

pub returns-clause-long : goal.returns-clause-long
returns-clause-long c =
    let power = c.checked_ilog10.ensures in
    digits_of_power c.args.number c.map_or.result c.checked_ilog10.result c.ranges.number.fits power.none power.power_le power.next_power_gt (search rules)
