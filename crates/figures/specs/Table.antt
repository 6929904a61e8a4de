-- THE TABLE of worked figures. Claims.antt says what its rows mean.
use Rattle.std.specs.Prelude.{◌≡◌, ℕ, true, false, List, [], ◌∷◌, codes}
use Rattle.std.specs.List.{All}
use Rattle.meaning.specs.Examples.{upload, lone}
use Rattle.meaning.specs.Lts.{Deadlocked}
use Rattle.meaning.specs.Rows.{IsSystemWith}
use Rattle.meaning.specs.Verdicts.{share}
use Rattle.meaning.specs.Weights.{airtime, peak}
use Rattle.figures.specs.Claims.{Row, row, AreRight, HasNodes, Join, join, IsJoin, Weighs}
use Rattle.figures.specs.Claims.{Joined, joined, IsJoined}

-- The upload model, a meter that measures and sends: its labels, each at the number of its action.
abbrev pub upload_labels : List (List ℕ)
upload_labels =
    codes "tau" ∷ codes "meas" ∷ codes "send" ∷ codes "add" ∷ codes "ack" ∷ codes "lost" ∷ []

-- number, text, at which states it holds, whether at the start, at how many, of how many, and
-- thousandths
abbrev pub upload_rows : List Row
upload_rows =
    row 0 (codes "NOT EF {add} E[{NOT meas} U {add}]")
    (false ∷ false ∷ false ∷ false ∷ []) false 0 4 0
    ∷ row 1 (codes "AF {ack}") (false ∷ false ∷ false ∷ false ∷ []) false 0 4 0
    ∷ row 2 (codes "EX {lost}") (false ∷ false ∷ false ∷ true ∷ []) false 1 4 250
    ∷ row 3 (codes "AX {meas}") (true ∷ false ∷ false ∷ false ∷ []) true 1 4 250
    ∷ []

-- the same of a model with one state, deadlocked
abbrev pub lone_labels : List (List ℕ)
lone_labels = codes "tau" ∷ []

abbrev pub lone_rows : List Row
lone_rows =
    row 0 (codes "AX {FALSE}") (true ∷ []) true 1 1 1000
    ∷ row 1 (codes "EG {FALSE}") (true ∷ []) true 1 1 1000
    ∷ row 2 (codes "EX {TRUE}") (false ∷ []) false 0 1 0
    ∷ row 3 (codes "AF {TRUE}") (false ∷ []) false 0 1 0
    ∷ []

-- states of each side, slots of each side, states and slots of both joined, whether these fit
abbrev pub joins : List Join
joins =
    join 1 1 63 63 1 4095 true
    ∷ join 1 1 64 64 1 4224 false
    ∷ join 256 256 1 1 65536 3 true
    ∷ join 256 257 1 1 65792 3 false
    ∷ []

-- a weight, a tariff, and the weight with it, by airtime and by peak: at the ends of their numbers
abbrev pub ends : List Joined
ends =
    joined airtime 0 0 0
    ∷ joined airtime 4294901760 65535 4294967295
    ∷ joined airtime 4294967290 5 4294967295
    ∷ joined airtime 4294967290 65535 4294967295
    ∷ joined airtime 4294967295 1 4294967295
    ∷ joined peak 0 0 0
    ∷ joined peak 7 3 7
    ∷ joined peak 7 65535 65535
    ∷ joined peak 65535 65535 65535
    ∷ []

pub record WorkedFigures : Type 0 where
  pub at_upload : IsSystemWith upload (λ M. AreRight M upload_labels upload_rows)
  pub at_lone : IsSystemWith lone (λ M. AreRight M lone_labels lone_rows)
  pub deadlocked : IsSystemWith lone (λ M. Deadlocked M M.start)
  pub two_of_three : share 2 3 ≡ 666
  pub at_limits : All IsJoin joins
  pub nodes : HasNodes (codes "EX {a}") 2
  pub by_airtime : Weighs airtime (2 ∷ 5 ∷ 1 ∷ []) 8
  pub by_peak : Weighs peak (2 ∷ 5 ∷ 1 ∷ []) 5
  pub at_ends : All IsJoined ends
