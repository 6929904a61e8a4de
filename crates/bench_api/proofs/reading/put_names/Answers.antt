use Rattle.std.proofs.Common.{[], ◌∷◌, ◌++◌, take}
use Rattle.bench_api.specs.Reading.{lines}
use Rattle.bench_api.proofs.Lines.{put_rest, put_same, one_more_line}
use Rattle.bench_api.proofs.reading.put_names.Goals as goal

pub loop-name-preserved : goal.loop-name-preserved
loop-name-preserved c =
    let items = c.names-name-items.result.now in let i = c.loop-name.name-index in let before = lines (take i items) in
    let name = c.as_bytes.result.now in let text = c.args.text.now in let e = c.put-at.ensures in let f = c.put-at-in-loop-name.ensures in
    let named = put_rest before name text _ _ _ _ c.loop-name.invariant.put e.count e.text in
    let ended = put_rest (before ++ name) (10 ∷ []) text _ _ _ _ named f.count f.text in
    record {
      names = c.loop-name.invariant.names;
      put = put_same ended (one_more_line items i c.name-item.result c.loop-name-test.true c.name-item.is name c.as_bytes.ensures.bytes);
    }
