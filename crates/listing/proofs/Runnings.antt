-- What is read, and the listing of it.
use Rattle.std.proofs.Common.{◌≡◌, ℕ, ◌≤◌, List, length, take, Some, None, Ok, Err, OnOk, IfSome, [], ◌++◌, Option, Result, sym, subst, ⊎_elim, arith}
use Rattle.std.specs.Io.KnownBytes.{Appends}
use Rattle.std.specs.Option.{option_map}
use Rattle.std.proofs.lemmas.Bool.{cases_lt}
use Rattle.std.proofs.lemmas.List.{take_all, length-take}
use Rattle.listing.specs.Listing.{Item, Said, read, Listing}
use Rattle.listing.specs.Listing as listing
use Rattle.listing.specs.Models.{no_model}
use Rattle.listing.specs.Models as models
use Rattle.listing.specs.Printing.{Printed}

-- a byte past the limit tells as much as all of them
cut : (input : List ℕ) (names : List (List ℕ)) (xs : List Item) → 32769 ≤ length input → Said (take 32769 input) names xs → Said input names xs
cut input _ _ l (listing.Said.refused (models.too_long m)) = listing.Said.refused (models.too_long (omega (arith, l)))
cut input _ _ l (listing.Said.refused (no_model m n)) = absurd (omega (arith, l, m, length-take 32769 input))
cut input _ _ l (listing.Said.refused (models.refused m f r)) = absurd (omega (arith, l, m, length-take 32769 input))
cut input _ _ l (read k p) = absurd (omega (arith, l, length-take 32769 input, k.short))

listing_of : (input out : List ℕ) → Listing (take 32769 input) out → Listing input out
listing_of input out k =
    ⊎_elim (λ l. subst (λ (x : List ℕ). Listing x out) (take_all 32769 input (omega (arith, l))) k)
    (λ l. record { names = k.names; items = k.items; said = cut input k.names k.items l k.said; is = k.is }) (cases_lt (length input) 32769)

pub printed : (known : Option (List ℕ)) (items out : List ℕ) (before after : Option (List ℕ)) → IfSome (option_map (take 32769) known) (λ xs. items ≡ xs) → Listing items out → Appends before after out →
    IfSome known (λ input. Printed input before after)
printed None items out before after h k a = tt
printed (Some input) items out before after h k a = record { out = out; listing = listing_of input out (subst (λ (x : List ℕ). Listing x out) h k); written = a }

pub on_ok : {A E : Type 0} (P Q : Type 0) (r : Result A E) → (P → Q) → OnOk r P → OnOk r Q
on_ok P Q (Ok x) f h = f h
on_ok P Q (Err e) f h = tt

-- what is read is the input, as far as one byte past what is taken
pub all_read : {R : Type 0} (remaining : R → Option (List ℕ)) (reader inner : R) (limit : ℕ) (start items text : List ℕ) → inner ≡ reader → limit ≡ 32769 → start ≡ [] → text ≡ items →
    IfSome (option_map (take limit) (remaining inner)) (λ xs. items ≡ start ++ xs) → IfSome (option_map (take 32769) (remaining reader)) (λ xs. text ≡ xs)
all_read remaining reader inner limit start items text r l s t h =
    subst (λ x. IfSome (option_map (take 32769) (remaining x)) (λ xs. text ≡ xs)) r
    (subst (λ (n : ℕ). IfSome (option_map (take n) (remaining inner)) (λ xs. text ≡ xs)) l
    (subst (λ (y : List ℕ). IfSome (option_map (take limit) (remaining inner)) (λ xs. y ≡ xs)) (sym t)
    (subst (λ (y : List ℕ). IfSome (option_map (take limit) (remaining inner)) (λ xs. items ≡ y ++ xs)) s h)))
