-- The names of a label list: which there are, and one more.
use Rattle.std.proofs.Common.{◌≡◌, ℕ, suc, ◌+◌, ◌<◌, Bool, true, false, cond, not, ◌&&◌, ◌||◌, leb, List, [], ◌∷◌, ◌++◌, length, take, Some, None, sym, refl, ap, ◌∙◌, ⊎_elim, arith}
use Rattle.std.specs.Str.{bytes_eq}
use Rattle.std.proofs.lemmas.List.{take_all}
use Rattle.std.proofs.lemmas.List.Folds.{list_any-append, list_all-append}
use Rattle.std.proofs.lemmas.Bool.{both_ways, and_parts, and_from, or_from, or_parts, not-true, not_from_false, cases_Bool, leb-true, cond-true}
use Rattle.std.proofs.lemmas.Slice.Eq.{bytes_eq-Decides}
use Rattle.base.specs.Names.{is_name, begins_name, name_bytes}
use Rattle.base.specs.Listing.{place, known, all_names, distinct, tau_first, lawful, action_of}

-- a name that has no place is not known
pub unknown : (k : ℕ) (name : List ℕ) (xs : List (List ℕ)) → place k name xs ≡ None → known name xs ≡ false
unknown k name [] h = refl
unknown k name (x ∷ xs) h = at (bytes_eq x name) (λ e. unknown (k + 1) name xs e) h
  where
    at : (b : Bool) → (place (k + 1) name xs ≡ None → known name xs ≡ false) → cond b (Some k) (place (k + 1) name xs) ≡ None → (b || known name xs) ≡ false
    at true f e = let z : ◌≡◌ {A = ℕ} 0 1 = cc in absurd (omega arith)
    at false f e = f e

pub same-turned : (x y : List ℕ) → bytes_eq x y ≡ false → bytes_eq y x ≡ false
same-turned x y h =
    ⊎_elim (λ t. absurd (both_ways (bytes_eq x y) h ((bytes_eq-Decides x y).1 (sym ((bytes_eq-Decides y x).0 t))))) (λ f. f) (cases_Bool (bytes_eq y x))

-- a text is the same as itself
pub same_itself : (x : List ℕ) → bytes_eq x x ≡ true
same_itself x = (bytes_eq-Decides x x).1 refl

-- a name that is put at the end is found there
place-push : (k : ℕ) (y : List ℕ) (xs : List (List ℕ)) → place k y xs ≡ None → place k y (xs ++ y ∷ []) ≡ Some (k + length xs)
place-push k y [] h = let e : k ≡ k + 0 = omega arith in cond-true _ _ _ (same_itself y) ∙ ap Some e
place-push k y (x ∷ xs) h = at (bytes_eq x y) (λ e. place-push (k + 1) y xs e) h
  where
    at : (b : Bool) → (place (k + 1) y xs ≡ None → place (k + 1) y (xs ++ y ∷ []) ≡ Some (k + 1 + length xs)) → cond b (Some k) (place (k + 1) y xs) ≡ None → cond b (Some k) (place (k + 1) y (xs ++ y ∷ [])) ≡ Some (k + suc (length xs))
    at true f e = cc
    at false f e = let n : k + 1 + length xs ≡ k + suc (length xs) = omega arith in f e ∙ ap Some n

pub action_of-push : (y : List ℕ) (xs : List (List ℕ)) → action_of y xs ≡ None → action_of y (xs ++ y ∷ []) ≡ Some (length xs)
action_of-push y xs h = let e : 0 + length xs ≡ length xs = omega arith in place-push 0 y xs h ∙ ap Some e

distinct_push : (y : List ℕ) (xs : List (List ℕ)) → distinct xs ≡ true → known y xs ≡ false → distinct (xs ++ y ∷ []) ≡ true
distinct_push y [] h k = refl
distinct_push y (x ∷ xs) h k =
    let p = and_parts (not (known x xs)) (distinct xs) h in
    let q = or_parts (bytes_eq x y) (known y xs) k in
    let r = list_any-append (λ z. bytes_eq z x) xs (y ∷ []) ∙ or_from _ _ (not-true _ p.0) (or_from _ _ (same-turned x y q.0) refl) in
    and_from _ _ (not_from_false _ r) (distinct_push y xs p.1 q.1)

tau_first-push : (y : List ℕ) (xs : List (List ℕ)) → tau_first xs ≡ true → tau_first (xs ++ y ∷ []) ≡ true
tau_first-push y [] h = absurd (both_ways false refl h)
tau_first-push y (x ∷ xs) h = h

-- a new name at the end keeps the law
pub lawful-push : (y : List ℕ) (xs : List (List ℕ)) → lawful xs ≡ true → is_name y ≡ true → known y xs ≡ false → lawful (xs ++ y ∷ []) ≡ true
lawful-push y xs h n k =
    let p = and_parts (tau_first xs) (all_names xs && distinct xs) h in
    let q = and_parts (all_names xs) (distinct xs) p.1 in
    and_from _ _ (tau_first-push y xs p.0) (and_from _ _ (list_all-append is_name xs (y ∷ []) ∙ and_from _ _ q.0 (and_from _ _ n refl)) (distinct_push y xs q.1 k))

-- a name is at most 16 bytes long
pub name-fits : (y : List ℕ) → is_name y ≡ true → take 16 y ≡ y
name-fits y h = take_all 16 y (leb-true _ _ (and_parts (leb (length y) 16) (begins_name y && name_bytes y) h).0)

-- tau is there
pub not_empty : (xs : List (List ℕ)) → lawful xs ≡ true → 0 < length xs
not_empty [] h = absurd (both_ways false refl h)
not_empty (x ∷ xs) h = omega arith
