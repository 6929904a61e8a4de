use Rattle.std.proofs.Common.{◌≡◌, ◌<◌}
use Rattle.std.specs.Option.{MatchOption}
use Rattle.bench_api.specs.Reading.{FreshRead}
use Rattle.bench_api.proofs.reading.read_rounds.Given as goal

abbrev pub invariant-loop : goal.invariant-loop
invariant-loop l =
    MatchOption l.last ((l.counter ≡ 0) × (l.cells ≡ l.fn.cells))
    (λ x. (0 < l.counter) × FreshRead l.text l.slots l.fn.cells l.cells x.header x.labels)
