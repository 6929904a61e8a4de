use Rattle.std.proofs.Common.{◌≡◌, ◌+◌, ◌-◌, ◌≤◌, length}
use Rattle.std.specs.Option.{option_map}
use Rattle.aut.specs.Front.{lines_length}
use Rattle.aut.proofs.front.skip_lines.Given as goal

abbrev pub invariant-loop : goal.invariant-loop
invariant-loop l = record {
  within : length l.rest ≤ length l.text;
  left : option_map (λ n. length l.text - length l.rest + n) (lines_length (l.lines - l.counter) l.rest) ≡ lines_length l.lines l.text;
}
