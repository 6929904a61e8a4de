-- Which label list some names make.
use Rattle.std.specs.Prelude.{◌≡◌, ℕ, ◌<◌, ◌≤◌, List, [], ◌∷◌, length, codes, Ok, Err, Result}
use Rattle.base.specs.Listing.{with_names}
use Rattle.base.specs.declared.labels.Labels.{Labels}
use Rattle.base.specs.declared.refusal.Refusal.{Refusal}
use Rattle.base.specs.declared.refusal.Refusal.TheVariants.{Crowded}

-- the names that a list of these has: tau, and then each new one
abbrev pub tau_with : List (List ℕ) → List (List ℕ)
tau_with names = with_names (codes "tau" ∷ []) names

-- The list of some names, or a refusal exactly where they and tau are more than 64.
abbrev pub Lists : List (List ℕ) → Result Labels Refusal → Type 0
Lists names (Ok l) = (length (tau_with names) ≤ 64) × (l ≡ tau_with names)
Lists names (Err e) = (64 < length (tau_with names)) × (e ≡ Crowded)
