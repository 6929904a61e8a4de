-- The lines after line one, one by one.
use Rattle.std.specs.Prelude.{◌≡◌, ◌∷◌, List, [], Some, None, Ok, Err, Option, Result}
use Rattle.std.specs.Option.{option_map}
use Rattle.base.specs.declared.refusal.Refusal.{Refusal}
use Rattle.base.specs.declared.refusal.Refusal.TheVariants.{Garbled}
use Rattle.base.specs.declared.name.Name.{Name}
use Rattle.aut.specs.declared.transition.Edge.{Edge}
use Rattle.aut.specs.declared.lines.Lines.{Lines}
use Rattle.aut.specs.Form.{Transition}
use Rattle.aut.specs.Scanning.{lines_of}
use Rattle.aut.specs.Views.{line_of}

-- the lines that are to come, if the text has just these
abbrev pub lines_left : Lines → Option (List Transition)
lines_left s = lines_of s.left s.text.now

-- What the next item says of the lines before and after it: there is none, there is a line, or the
-- text is not of the form.
abbrev pub TakesLine : Lines → Option (Result (Edge Name) Refusal) → Lines → Type 0
TakesLine s None t = lines_left s ≡ Some []
TakesLine s (Some (Ok l)) t = lines_left s ≡ option_map (λ ls. line_of l ∷ ls) (lines_left t)
TakesLine s (Some (Err e)) t = (lines_left s ≡ None) × (e ≡ Garbled)
