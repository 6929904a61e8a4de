use Rattle.std.proofs.Common.{◌≡◌, take}
use Rattle.bench_api.specs.Reading.{lines}
use Rattle.bench_api.proofs.Lines.{PutSoFar}
use Rattle.bench_api.proofs.reading.put_names.Given as goal

abbrev pub invariant-loop-name : goal.invariant-loop-name
invariant-loop-name l =
    record {
      names : l.name-items ≡ l.labels;
      put : PutSoFar (lines (take l.name-index l.name-items)) l.fn.text l.text l.at;
    }
