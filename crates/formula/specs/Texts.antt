-- How the words for operators are spelled.
use Rattle.std.specs.Prelude.{ℕ, List, codes}
use Rattle.formula.specs.declared.symbol.Operator.{Operator}
use Rattle.formula.specs.declared.symbol.Operator.TheVariants.{Ex, Ef, Eg, Ax, Af, Ag}
use Rattle.formula.specs.declared.symbol.Quantifier.{Quantifier}
-- one of them is named as what an option holds
use Rattle.formula.specs.declared.symbol.Quantifier.TheVariants as quantifier
use Rattle.formula.specs.declared.symbol.Link.{Link}
use Rattle.formula.specs.declared.symbol.Link.TheVariants.{Until, Unless}

abbrev pub operator_text : Operator → List ℕ
operator_text Ex = codes "EX"
operator_text Ef = codes "EF"
operator_text Eg = codes "EG"
operator_text Ax = codes "AX"
operator_text Af = codes "AF"
operator_text Ag = codes "AG"

abbrev pub quantifier_text : Quantifier → List ℕ
quantifier_text quantifier.Exists = codes "E"
quantifier_text quantifier.ForAll = codes "A"

abbrev pub link_text : Link → List ℕ
link_text Until = codes "U"
link_text Unless = codes "W"
