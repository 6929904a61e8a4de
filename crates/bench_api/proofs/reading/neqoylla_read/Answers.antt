use Rattle.std.proofs.Common.{ℕ, zero, suc, ◌<◌, List, ap, arith, rules}
use Rattle.model.specs.declared.cell.Cell.{Cell}
use Rattle.bench_api.specs.declared.reading.Outcome.{Outcome}
use Rattle.bench_api.specs.Reading.{FreshRead, AnsweredRead, ReadAnswer}
use Rattle.bench_api.proofs.reading.neqoylla_read.Goals as goal

answered : (text : List ℕ) (w : ℕ) (cells cells' : List Cell) (names names' : List ℕ) (before after : Outcome) (rounds : ℕ) → 0 < rounds →
    AnsweredRead text w cells cells' names names' before after → ReadAnswer text w cells cells' names names' before after rounds 0
answered text w cells cells' names names' before after zero l r = absurd (omega arith)
answered text w cells cells' names names' before after (suc k) l r = r

pub returns-in-Ok-Some : goal.returns-in-Ok-Some
returns-in-Ok-Some c =
    let x = c.in-Ok-Some.field-0-0 in let h = x.header in let r : (0 < c.args.rounds) × FreshRead c.args.text.now c.args.slots c.args.cells.now c.read_rounds.new.cells x.header x.labels = search rules in
    let out : ℕ → Outcome = λ n. record { refusal = 0; start = h.start; transitions = h.transitions; states = h.states; names = n } in
    answered c.args.text.now c.args.slots c.args.cells.now _ c.args.names.now _ c.args.outcome.now _ c.args.rounds r.0
    record { header = h; labels = x.labels; read = r.1; outcome_is = ap out c.len.ensures.names; names_are = c.put_names.ensures }
