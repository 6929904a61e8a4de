use Rattle.std.proofs.Common.{rules, sym}
use Rattle.shelf.specs.Columns.{columns_cover}
use Rattle.std.specs.Prelude.{length}
use Rattle.search.specs.Scales.{by_peak}
use Rattle.bench_api.specs.Asking.{PathAnswer}
use Rattle.bench_api.proofs.Handing.{moved}
use Rattle.bench_api.proofs.asking.neqoylla_path_peak.Goals as goal

pub returns : goal.returns
returns c =
    let a = c.args in let f = c.find_path in
    record {
      found = f.result;
      answer =
          moved (λ s t. PathAnswer a.text.now a.cells.now a.states a.slots (columns_cover (length a.columns.now) a.states) by_peak a.tariffs.now a.stem.now a.cycle.now s t f.result)
          f.new.lists.stem.now f.new.lists.cycle.now f.ensures.answer
          (search (rules, sym f.ensures.stem_owner)) (search (rules, sym f.ensures.cycle_owner));
      told_is = c.outcome_of.ensures;
    }
