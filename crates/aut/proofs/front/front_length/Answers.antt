use Rattle.std.proofs.Common.{◌≡◌, ◌+◌, ◌-◌, ◌≤◌, length, Some, sym, ap, ◌∙◌, arith}
use Rattle.std.specs.Option.{option_map}
use Rattle.std.proofs.lemmas.Option.{same_Some}
use Rattle.aut.specs.Front.{lines_length}
use Rattle.aut.proofs.Readings.{first_shorter}
use Rattle.aut.proofs.Stages.{no_way}
use Rattle.aut.proofs.Fronts.{no_front, front-is, front_made}
use Rattle.aut.proofs.front.front_length.Goals as goal

pub returns-in_err-header : goal.returns-in_err-header
returns-in_err-header c = rw c.from_residual.ensures (no_front c.args.input.now (sym c.in_err-header.ensures))

pub returns-in_err-rest : goal.returns-in_err-rest
returns-in_err-rest c =
    let h = c.in_ok-header.header in let body = c.in_ok-header.body.now in
    rw c.from_residual-in_err-rest.ensures
    (λ n k. no_way _ (sym (ap (option_map (λ j. length c.args.input.now - length body + j)) c.in_err-rest.ensures) ∙ front-is c.args.input.now h body (sym c.in_ok-header.ensures) n k))

-- the text after the model is a part of the input
part : (c : goal.In_ok-rest) → length c.in_ok-rest.rest.now ≤ length c.args.input.now
part c = omega (arith, first_shorter c.args.input.now c.in_ok-header.header c.in_ok-header.body.now (sym c.in_ok-header.ensures), c.in_ok-rest.ensures.1)

pub overflow_sub-result : goal.overflow_sub-result
overflow_sub-result c = part c

pub returns : goal.returns
returns c =
    let input = c.args.input.now in let h = c.in_ok-header.header in let body = c.in_ok-header.body.now in let rest = c.in_ok-rest.rest.now in
    let first = sym c.in_ok-header.ensures in
    let within = first_shorter input h body first in
    let long : length input - length body + (length body - length rest) ≡ length input - length rest = omega (arith, within, c.in_ok-rest.ensures.1) in
    let whole : option_map (λ j. length input - length body + j) (lines_length h.transitions body) ≡ Some (length input - length rest) =
    ap (option_map (λ j. length input - length body + j)) c.in_ok-rest.ensures.0 ∙ ap Some long in
    record {
      front = front_made input h body first (length input - length rest) whole;
      only = λ m k. same_Some _ _ (sym (front-is input h body first m k) ∙ whole);
      inside = omega arith;
    }
