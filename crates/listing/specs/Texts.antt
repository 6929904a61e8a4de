-- The lines that are printed, each with the byte 10 that ends it.
use Rattle.std.specs.Prelude.{ℕ, Bool, List, [], ◌∷◌, ◌++◌, Some, None, Option}
use Rattle.std.specs.Prelude.{codes, decimal, if◌then◌else◌}
use Rattle.base.specs.declared.refusal.Refusal.{Refusal}
use Rattle.base.specs.Refusals.{number_of}
use Rattle.meaning.specs.Deciding.{Step}
use Rattle.meaning.specs.DecidingPaths.{DecidingPath, ended, looping}
use Rattle.meaning.specs.Verdicts.{Verdict}
use Rattle.aut.specs.Writing.{name_at}

abbrev pub refused_text : Refusal → List ℕ
refused_text e = codes "refused " ++ (decimal (number_of e) ++ codes "\n")

abbrev pub word_of : Bool → List ℕ
word_of b = if b then codes "YES" else codes "NO"

-- the count, the total and the share
abbrev pub figures_text : Verdict → List ℕ
figures_text v =
    codes " " ++ (decimal v.count
    ++ (codes " " ++ (decimal v.total ++ (codes " " ++ (decimal v.share ++ codes "\n")))))

-- the formula's number, the verdict at the start, and these
abbrev pub verdict_text : ℕ → Verdict → List ℕ
verdict_text n v = decimal n ++ (codes " " ++ (word_of v.holds ++ figures_text v))

-- the labels of steps, one space before each
abbrev pub steps_text : List (List ℕ) → List Step → List ℕ
steps_text names [] = []
steps_text names (x ∷ w) = codes " " ++ (name_at names x.0 ++ steps_text names w)

-- the stem's labels, and where there is a cycle, its labels after a bar; no path, no line
abbrev pub path_text : List (List ℕ) → Option DecidingPath → List ℕ
path_text names None = []
path_text names (Some (ended v)) = codes "path" ++ (steps_text names v ++ codes "\n")
path_text names (Some (looping v w)) =
    codes "path" ++ (steps_text names v ++ (codes " |" ++ (steps_text names w ++ codes "\n")))
