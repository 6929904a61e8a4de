-- The text of a model has the form, with the model's transitions.
use Rattle.std.proofs.Common.{◌≡◌, ℕ, ◌^◌, ◌<◌, true, List, [], ◌∷◌, length, get_or, is_some, decimal, refl, ap, ◌∙◌, ⊎_elim, arith, rules}
use Rattle.std.specs.List.{slice_get}
use Rattle.std.proofs.lemmas.Str.Parse.{IsNumeralModel, numerals_by_fold}
use Rattle.std.proofs.lemmas.Fmt.{decimal_nonempty, length-decimal-le, first_decimal, decimal_digit, digits_decimal, digits_value-decimal}
use Rattle.std.proofs.lemmas.Bool.{cases_eq, cases_lt}
use Rattle.base.specs.Listing.{all_names}
use Rattle.aut.specs.Form.{all_digits, worth, Numeral, nothing, LineOne, FurtherLine, Lines, none, more}
use Rattle.aut.specs.Writing.{Move, move_text, moves_text, head_text}
use Rattle.aut.specs.Back.{as_line, as_lines}
use Rattle.aut.proofs.Spelled.{is_name-at}

own : IsNumeralModel (λ ds. all_digits ds ≡ true) (worth 0)
own = numerals_by_fold _ (search rules) worth (search rules)

pub numeral : (n : ℕ) → n < 100000 → Numeral (decimal n) n
numeral n h =
    let fits : n < 2 ^ 64 = omega arith in
    record {
      in_digits = digits_decimal own n fits;
      some_digits = decimal_nonempty n fits;
      few_digits = length-decimal-le 5 n (omega arith) (omega arith) fits;
      zero_alone = alone;
      writes = digits_value-decimal own n fits;
    }
  where
    alone : get_or (decimal n) 0 0 ≡ 48 → length (decimal n) ≡ 1
    alone e =
        ⊎_elim (λ z. ap (λ k. length (decimal k)) z ∙ ap length (decimal_digit 0 (omega arith)))
        (λ nz. absurd (let f = first_decimal n (⊎_elim (λ p. p) (λ p. absurd (nz (omega arith))) (cases_lt 0 n)) (omega arith) in omega (arith, f, e))) (cases_eq n 0)

-- its line one
pub line_one : (i m n : ℕ) → i < 100000 → m < 100000 → n < 100000 → LineOne (head_text i m n) (record { start = i; transitions = m; states = n })
line_one i m n p q r = record {
  start = decimal i;
  transitions = decimal m;
  states = decimal n;
  gap = [];
  gap' = [];
  start_is = numeral i p;
  transitions_is = numeral m q;
  states_is = numeral n r;
  gap_is = nothing;
  gap_is' = nothing;
  reads = refl;
}

-- numbers that fit a numeral, and an action that has a name
pub record Fit (names : List (List ℕ)) (m : Move) : Type 0 where
  pub from : m.from < 100000
  pub to : m.to < 100000
  pub named : is_some (slice_get names m.label) ≡ true

pub line_of-move : (names : List (List ℕ)) (m : Move) → all_names names ≡ true → Fit names m → FurtherLine (move_text names m) (as_line names m)
line_of-move names m law f = record {
  from = decimal m.from;
  to = decimal m.to;
  gap = [];
  gap' = [];
  from_is = numeral m.from f.from;
  label_is = is_name-at names m.label law f.named;
  to_is = numeral m.to f.to;
  gap_is = nothing;
  gap_is' = nothing;
  reads = refl;
}

pub data AllFit (names : List (List ℕ)) : List Move → Type 0 where
  no_moves : AllFit names []
  move : {m : Move} {ms : List Move} → Fit names m → AllFit names ms → AllFit names (m ∷ ms)

-- its further lines
pub lines_of-moves : (names : List (List ℕ)) (ms : List Move) → all_names names ≡ true → AllFit names ms → Lines (moves_text names ms) (as_lines names ms)
lines_of-moves names [] law no_moves = none
lines_of-moves names (m ∷ ms) law (move f fs) = more (line_of-move names m law f) (lines_of-moves names ms law fs)
