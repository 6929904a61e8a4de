-- The words for why orders have no log.
use Rattle.std.specs.Prelude.{ℕ, List, codes}
use Rattle.base.specs.Refusals.{word_of}
use Rattle.study.specs.declared.carry_out_error.CarryOutError.{CarryOutError}
use Rattle.study.specs.declared.carry_out_error.CarryOutError.TheVariants.{Refused, NoMemory}

abbrev pub words_of : CarryOutError → List ℕ
words_of (Refused e) = word_of e
words_of NoMemory = codes "no memory"
