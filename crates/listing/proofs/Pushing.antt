-- Texts of steps, one after another.
use Rattle.std.proofs.Common.{◌≡◌, ℕ, ◌+◌, ◌<◌, suc, List, ◌∷◌, ◌++◌, length, drop, get_or, codes, sym, ap, ◌∙◌, arith, append_assoc}
use Rattle.std.proofs.Math.Seq.{drop-cons}
use Rattle.search.specs.declared.step.Step.{Step}
use Rattle.search.specs.Quests.{steps_of}
use Rattle.aut.specs.Writing.{name_at}
use Rattle.listing.specs.Texts.{steps_text}

-- the text of the steps from i on is that of step i, and of those from i + 1 on
pub one_step : (names : List (List ℕ)) (steps : List Step) (i : ℕ) (d : Step) (before now : List ℕ) → i < length steps
    → now ≡ before ++ (codes " " ++ name_at names (get_or steps i d).action)
    → now ++ steps_text names (steps_of (drop (i + 1) steps)) ≡ before ++ steps_text names (steps_of (drop i steps))
one_step names steps i d before now l e =
    let n : suc i ≡ i + 1 = omega arith in
    let here = codes " " ++ name_at names (get_or steps i d).action in
    let rest = steps_text names (steps_of (drop (i + 1) steps)) in
    ap (λ x. x ++ rest) e
    ∙ append_assoc before here rest
    ∙ ap (λ x. before ++ x) (append_assoc (codes " ") (name_at names (get_or steps i d).action) rest)
    ∙ sym (ap (λ x. before ++ steps_text names (steps_of x)) (drop-cons steps i d l ∙ ap (λ m. get_or steps i d ∷ drop m steps) n))
