-- The names of a lawful label list: none is longer than 16 bytes, and each is found at its own place.
use Rattle.std.proofs.Common.{◌≡◌, ℕ, zero, suc, ◌+◌, ◌≤◌, true, false, not, ◌&&◌, leb, List, [], ◌∷◌, length, is_some, Some, None, Option, sym, refl, ap, ◌∙◌, add-zero, zero-add, arith}
use Rattle.std.specs.List.{slice_get}
use Rattle.std.specs.Str.{bytes_eq}
use Rattle.std.proofs.lemmas.Bool.{and_parts, or_left, or_right, or_parts, both_ways, not-true, leb-true, cond-true, cond-false}
use Rattle.base.proofs.Listed.{same_itself, same-turned, unknown}
use Rattle.base.specs.Names.{is_name, begins_name, name_bytes}
use Rattle.base.specs.Listing.{place, known, action_of, all_names, distinct, tau_first, lawful}
use Rattle.aut.specs.Writing.{name_at}

pub short-name : (x : List ℕ) → is_name x ≡ true → length x ≤ 16
short-name x h = leb-true (length x) 16 (and_parts (leb (length x) 16) (begins_name x && name_bytes x) h).0

short-names : (xs : List (List ℕ)) (a : ℕ) → all_names xs ≡ true → length (name_at xs a) ≤ 16
short-names [] a h = omega arith
short-names (x ∷ xs) zero h = short-name x (and_parts (is_name x) (all_names xs) h).0
short-names (x ∷ xs) (suc a) h = short-names xs a (and_parts (is_name x) (all_names xs) h).1

pub all_are_names : (xs : List (List ℕ)) → lawful xs ≡ true → all_names xs ≡ true
all_are_names xs h = (and_parts (all_names xs) (distinct xs) (and_parts (tau_first xs) (all_names xs && distinct xs) h).1).0

pub name-short : (xs : List (List ℕ)) (a : ℕ) → lawful xs ≡ true → length (name_at xs a) ≤ 16
name-short xs a h = short-names xs a (all_are_names xs h)

-- a name of the list is a name, is known, has an action, and is found at its own place
pub is_name-at : (xs : List (List ℕ)) (a : ℕ) → all_names xs ≡ true → is_some (slice_get xs a) ≡ true → is_name (name_at xs a) ≡ true
is_name-at [] a h k = absurd (both_ways false refl k)
is_name-at (x ∷ xs) zero h k = (and_parts (is_name x) (all_names xs) h).0
is_name-at (x ∷ xs) (suc a) h k = is_name-at xs a (and_parts (is_name x) (all_names xs) h).1 k

known_at : (xs : List (List ℕ)) (a : ℕ) → is_some (slice_get xs a) ≡ true → known (name_at xs a) xs ≡ true
known_at [] a k = absurd (both_ways false refl k)
known_at (x ∷ xs) zero k = or_left _ _ (same_itself x)
known_at (x ∷ xs) (suc a) k = or_right _ _ (known_at xs a k)

pub has_action_at : (xs : List (List ℕ)) (a : ℕ) → is_some (slice_get xs a) ≡ true → is_some (action_of (name_at xs a) xs) ≡ true
has_action_at xs a k = at (action_of (name_at xs a) xs) refl
  where
    at : (o : Option ℕ) → action_of (name_at xs a) xs ≡ o → is_some o ≡ true
    at (Some b) e = refl
    at None e = absurd (both_ways _ (unknown 0 (name_at xs a) xs e) (known_at xs a k))

-- a name that is not known is none of the list's
apart : (y : List ℕ) (xs : List (List ℕ)) (a : ℕ) → known y xs ≡ false → is_some (slice_get xs a) ≡ true → bytes_eq y (name_at xs a) ≡ false
apart y [] a h k = absurd (both_ways false refl k)
apart y (x ∷ xs) zero h k = same-turned x y (or_parts (bytes_eq x y) (known y xs) h).0
apart y (x ∷ xs) (suc a) h k = apart y xs a (or_parts (bytes_eq x y) (known y xs) h).1 k

place_at : (xs : List (List ℕ)) (a j : ℕ) → distinct xs ≡ true → is_some (slice_get xs a) ≡ true → place j (name_at xs a) xs ≡ Some (j + a)
place_at [] a j d k = absurd (both_ways false refl k)
place_at (x ∷ xs) zero j d k = cond-true _ _ _ (same_itself x) ∙ ap Some (sym (add-zero j))
place_at (x ∷ xs) (suc a) j d k =
    let p = and_parts (not (known x xs)) (distinct xs) d in
    let e : j + 1 + a ≡ j + suc a = omega arith in
    cond-false _ _ _ (apart x xs a (not-true _ p.0) k) ∙ place_at xs a (j + 1) p.1 k ∙ ap Some e

pub action_at : (xs : List (List ℕ)) (a : ℕ) → lawful xs ≡ true → is_some (slice_get xs a) ≡ true → action_of (name_at xs a) xs ≡ Some a
action_at xs a h k =
    let d = (and_parts (all_names xs) (distinct xs) (and_parts (tau_first xs) (all_names xs && distinct xs) h).1).1 in
    place_at xs a 0 d k ∙ ap Some (zero-add a)
