-- How the reader goes through a line, byte by byte. Form.antt says what a line is; that the two
-- agree is proved.
use Rattle.std.specs.Prelude.{ℕ, zero, suc, ◌+◌, ◌-◌, ◌*◌, Bool, true, false, ◌&&◌, List, [], ◌∷◌, ◌++◌, length, Some, None, Option, ◌==◌, nat_lt, if◌then◌else◌}
use Rattle.base.specs.Names.{letter, digit, name_byte}
use Rattle.aut.specs.declared.field.Field.{Field}
use Rattle.aut.specs.declared.field.Field.TheVariants.{D, E, S, Blank, HeadOpen, Start, CountGap, Count, StatesGap, States, HeadEnd, Open, From, LabelGap, Quote, Initial, Label, Comma, ToGap, To, LineEnd}
use Rattle.aut.specs.declared.field.NumberRole.{NumberRole}
use Rattle.aut.specs.declared.field.NumberRole.TheVariants.{StartState, LineCount, StateCount, Source, Target}
use Rattle.aut.specs.declared.field.Effect.{Effect}
use Rattle.aut.specs.declared.field.Effect.TheVariants.{Next, Digit, Letter, Store}
use Rattle.std.specs.Option.{option_map, option_and_then}
use Rattle.aut.specs.declared.header.Header.{Header}
use Rattle.aut.specs.Form.{Transition}

-- only this byte goes on
abbrev pub only : ℕ → ℕ → Effect → Option Effect
only c b t = if b == c then Some t else None

-- a numeral that ends with this byte
abbrev pub numeral : Field → ℕ → NumberRole → Field → ℕ → Option Effect
numeral f c p g b = if digit b then Some (Digit f) else only c b (Store p g)

-- what a byte does in a field, if it may stand there
abbrev pub effect_of : Field → ℕ → Option Effect
effect_of D b = only 100 b (Next E)
effect_of E b = only 101 b (Next S)
effect_of S b = only 115 b (Next Blank)
effect_of Blank b = only 32 b (Next HeadOpen)
effect_of HeadOpen b = only 40 b (Next Start)
effect_of Start b = numeral Start 44 StartState CountGap b
effect_of CountGap b = if b == 32 then Some (Next Count) else numeral Count 44 LineCount StatesGap b
effect_of Count b = numeral Count 44 LineCount StatesGap b
effect_of StatesGap b =
    if b == 32 then Some (Next States) else numeral States 41 StateCount HeadEnd b
effect_of States b = numeral States 41 StateCount HeadEnd b
effect_of HeadEnd b = only 10 b (Next Open)
effect_of Open b = only 40 b (Next From)
effect_of From b = numeral From 44 Source LabelGap b
effect_of LabelGap b = if b == 32 then Some (Next Quote) else only 34 b (Next Initial)
effect_of Quote b = only 34 b (Next Initial)
effect_of Initial b = if letter b then Some Letter else None
effect_of Label b = if name_byte b then Some Letter else only 34 b (Next Comma)
effect_of Comma b = only 44 b (Next ToGap)
effect_of ToGap b = if b == 32 then Some (Next To) else numeral To 41 Target LineEnd b
effect_of To b = numeral To 41 Target LineEnd b
effect_of LineEnd b = only 10 b (Next Open)

-- where the reader stands in a line
pub record State : Type 0 where
  pub field : Field
  pub number : Option ℕ
  pub head : Header
  pub line : Transition

abbrev pub no_head : Header
no_head = record { start = 0; transitions = 0; states = 0 }

abbrev pub no_line : Transition
no_line = record { from = 0; label = []; to = 0 }

-- at the beginning of a field, with nothing read yet
abbrev pub begin : Field → State
begin f = record { field = f; number = None; head = no_head; line = no_line }

abbrev pub goes : Field → State → State
goes f s = record { field = f; number = s.number; head = s.head; line = s.line }

-- one digit more: at most 5, and none after a leading zero
abbrev pub with_digit : ℕ → Option ℕ → Option ℕ
with_digit v None = Some v
with_digit v (Some n) = if nat_lt 0 n && nat_lt n 10000 then Some (n * 10 + v) else None

abbrev pub digit_in : Field → ℕ → State → Option State
digit_in f v s =
    option_map (λ n. record { field = f; number = Some n; head = s.head; line = s.line })
    (with_digit v s.number)

-- one letter more: at most 16
abbrev pub letter_in : ℕ → State → Option State
letter_in b s =
    if nat_lt (length s.line.label) 16 then Some (record {
      field = Label;
      number = s.number;
      head = s.head;
      line = record { from = s.line.from; label = s.line.label ++ b ∷ []; to = s.line.to };
    }) else None

-- what the number read is for
abbrev pub head_with : NumberRole → ℕ → Header → Header
head_with StartState n h = record { start = n; transitions = h.transitions; states = h.states }
head_with LineCount n h = record { start = h.start; transitions = n; states = h.states }
head_with StateCount n h = record { start = h.start; transitions = h.transitions; states = n }
head_with Source n h = h
head_with Target n h = h

abbrev pub line_with : NumberRole → ℕ → Transition → Transition
line_with StartState n l = l
line_with LineCount n l = l
line_with StateCount n l = l
line_with Source n l = record { from = n; label = l.label; to = l.to }
line_with Target n l = record { from = l.from; label = l.label; to = n }

-- the number ends, if it has a digit
abbrev pub store_in : NumberRole → Field → State → Option State
store_in p f s =
    option_map (λ n. record {
      field = f;
      number = None;
      head = head_with p n s.head;
      line = line_with p n s.line;
    }) s.number

abbrev pub effected : ℕ → State → Effect → Option State
effected b s (Next f) = Some (goes f s)
effected b s (Digit f) = digit_in f (b - 48) s
effected b s Letter = letter_in b s
effected b s (Store p f) = store_in p f s

-- one byte on, if it may stand here
abbrev pub next : State → ℕ → Option State
next s b = option_and_then (effected b s) (effect_of s.field b)

-- the next line is to begin
abbrev pub at_line : Field → Bool
at_line D = false
at_line E = false
at_line S = false
at_line Blank = false
at_line HeadOpen = false
at_line Start = false
at_line CountGap = false
at_line Count = false
at_line StatesGap = false
at_line States = false
at_line HeadEnd = false
at_line Open = true
at_line From = false
at_line LabelGap = false
at_line Quote = false
at_line Initial = false
at_line Label = false
at_line Comma = false
at_line ToGap = false
at_line To = false
at_line LineEnd = false

-- after a byte: the line is at its end, or there is more of it
abbrev pub go_on : Option State → List ℕ → (State → Option (State × List ℕ)) →
    Option (State × List ℕ)
go_on None t more = None
go_on (Some s) t more = if at_line s.field then Some (s, t) else more s

-- the rest of a line: where the reader then stands, and what follows the line
abbrev pub scan_on : State → List ℕ → Option (State × List ℕ)
scan_on s [] = None
scan_on s (b ∷ t) = go_on (next s b) t (λ z. scan_on z t)

-- line one, and what follows it
abbrev pub first_line : List ℕ → Option (Header × List ℕ)
first_line t = option_map (λ p. (p.0.head, p.1)) (scan_on (begin D) t)

-- a further line, and what follows it
abbrev pub next_line : List ℕ → Option (Transition × List ℕ)
next_line t = option_map (λ p. (p.0.line, p.1)) (scan_on (begin Open) t)

-- as many lines as are to come, and nothing after them
abbrev pub with_line : Option (Transition × List ℕ) → (List ℕ → Option (List Transition)) →
    Option (List Transition)
with_line None more = None
with_line (Some p) more = option_map (λ ls. p.0 ∷ ls) (more p.1)

abbrev pub at_end : List ℕ → Option (List Transition)
at_end [] = Some []
at_end (b ∷ t) = None

abbrev pub lines_of : ℕ → List ℕ → Option (List Transition)
lines_of zero t = at_end t
lines_of (suc m) t = with_line (next_line t) (lines_of m)

-- the whole text: line one, and the lines that it announces
abbrev pub with_head : Option (Header × List ℕ) → Option (Header × List Transition)
with_head None = None
with_head (Some p) = option_map (λ ls. (p.0, ls)) (lines_of p.0.transitions p.1)

abbrev pub form_of : List ℕ → Option (Header × List Transition)
form_of text = with_head (first_line text)
