use Rattle.std.proofs.Common.{◌≡◌, Some, sym, ap, ◌∙◌}
use Rattle.std.specs.Option.{option_map}
use Rattle.std.proofs.lemmas.Bool.{cond-true}
use Rattle.std.proofs.lemmas.Option.{none-some}
use Rattle.aut.specs.Scanning.{next_line}
use Rattle.aut.specs.Views.{scanned}
use Rattle.aut.proofs.Readings.{next_named}
use Rattle.aut.proofs.scan.next_line.Goals as goal

-- the label of a line is a name
pub returns-in_err-label : goal.returns-in_err-label
returns-in_err-label c =
    let s = c.in-Some.scan in let rest = c.in-Some.rest.now in
    let read : next_line c.args.text.now ≡ Some (scanned s.line, rest) = ap (option_map (λ p. (p.0.line, p.1))) (sym c.in-Some.ensures) in
    let named = next_named c.args.text.now (scanned s.line) rest read in
    absurd (none-some _ (sym c.in_err-label.was ∙ c.from_bytes.ensures ∙ cond-true _ _ _ named))
