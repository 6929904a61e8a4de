-- What the reader's values stand for.
use Rattle.std.specs.Prelude.{ℕ, List}
use Rattle.aut.specs.declared.transition.Edge.{Edge}
use Rattle.aut.specs.declared.scan.Scan.{Scan}
use Rattle.aut.specs.Form.{Transition}
use Rattle.aut.specs.Scanning.{State}
use Rattle.aut.specs.Laying.{Laid}
use Rattle.model.specs.declared.cell.Cell.{Cell}

abbrev pub line_of : Edge (List ℕ) → Transition
line_of l = record { from = l.from; label = l.label; to = l.to }

-- a line as far as it is read
abbrev pub scanned : Edge (List ℕ) → Transition
scanned l = record { from = l.from; label = l.label; to = l.to }

abbrev pub view : Scan → State
view s = record { field = s.field; number = s.number; head = s.header; line = scanned s.line }

abbrev pub laid_view : List Cell → List ℕ → Laid
laid_view cs ns = record { cells = cs; counts = ns }
