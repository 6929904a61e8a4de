-- What is claimed of listings.
use Rattle.std.specs.Prelude.{◌≡◌, ℕ, List, [], ◌∷◌, is_some}
use Rattle.listing.specs.Listing.{Item, refusal, report, Listing}

-- two items that differ in their paths alone: both have one, or both have none
abbrev pub Alike : Item → Item → Type 0
Alike (refusal e) (refusal d) = e ≡ d
Alike (report n v p) (report m w q) = (n ≡ m) × (v ≡ w) × (is_some p ≡ is_some q)
Alike x y = ⊥

abbrev pub AllAlike : List Item → List Item → Type 0
AllAlike [] [] = Unit {0}
AllAlike (x ∷ xs) (y ∷ ys) = Alike x y × AllAlike xs ys
AllAlike xs ys = ⊥

-- An input has one listing at most, but for the choice among its paths.
abbrev pub OneListing : Type 0
OneListing =
    (input out out' : List ℕ) (k : Listing input out) (k' : Listing input out')
    → (k.names ≡ k'.names) × AllAlike k.items k'.items
