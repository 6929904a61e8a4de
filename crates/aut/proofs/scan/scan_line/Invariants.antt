use Rattle.std.proofs.Common.{◌≡◌, length}
use Rattle.aut.specs.Scanning.{begin, scan_on}
use Rattle.aut.specs.Views.{view}
use Rattle.aut.proofs.scan.scan_line.Given as goal

abbrev pub invariant-loop-byte : goal.invariant-loop-byte
invariant-loop-byte l = scan_on (view l.scan) l.rest ≡ scan_on (begin l.fn.field) l.fn.text

abbrev pub decreases-loop-byte : goal.decreases-loop-byte
decreases-loop-byte l = length l.rest
