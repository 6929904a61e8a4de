-- Adding names one after another: that each is added or refused, and what is left of them.
use Rattle.std.proofs.Common.{◌≡◌, ℕ, ◌+◌, ◌<◌, ◌≤◌, Bool, true, false, cond, ◌||◌, ltb, List, [], ◌∷◌, ◌++◌, length, is_some, drop, get_or, Some, None, Ok, sym, refl, ap, ◌∙◌, arith}
use Rattle.std.specs.Option.{ok_or}
use Rattle.std.proofs.lemmas.List.{at_drop_more, at_drop_all, length_push}
use Rattle.std.proofs.lemmas.Bool.{or_right, or_parts, ltb-true, ltb-false, cond-true, cond-false, cond_both}
use Rattle.base.specs.declared.refusal.Refusal.{Refusal}
use Rattle.base.specs.Names.{is_name}
use Rattle.base.specs.Labels.{tau_with}
use Rattle.base.specs.Listing.{lawful, action_of, with_name, with_names, has_room_for, Adds}
use Rattle.base.proofs.Listed.{lawful-push, unknown, action_of-push}

-- a value is pushed exactly where there is room
pub had_room : (e : Refusal) {x : Unit {0}} (b : Bool) → ok_or (cond b (Some tt) None) e ≡ Ok x → b ≡ true
had_room e true h = refl
had_room e false h = cc

-- a label list, and a name that stands for no action in it
module _ (names : List (List ℕ)) (y : List ℕ) (new : action_of y names ≡ None) where
  -- with the name at the end, if there was room
  module _ (after : List (List ℕ)) (pushed : after ≡ cond (ltb (length names) 64) (names ++ y ∷ []) names) where
    pub pushed-lawful : lawful names ≡ true → is_name y ≡ true → lawful after ≡ true
    pushed-lawful law is = ap lawful pushed ∙ each (ltb (length names) 64)
      where
        each : (b : Bool) → lawful (cond b (names ++ y ∷ []) names) ≡ true
        each true = lawful-push y names law is (unknown 0 y names new)
        each false = law

    pub pushed-adds : ltb (length names) 64 ≡ true → Adds y names after (Ok (length names))
    pushed-adds room = (or_right _ _ room, grown ∙ sym grows, ap (action_of y) grown ∙ action_of-push y names new)
      where
        grown : after ≡ names ++ y ∷ []
        grown = pushed ∙ cond-true _ _ _ room

        grows : with_name y names ≡ names ++ y ∷ []
        grows = cond-false (is_some (action_of y names)) _ _ (ap is_some new)

-- the names only grow
pub longer-name : (y : List ℕ) (xs : List (List ℕ)) → length xs ≤ length (with_name y xs)
longer-name y xs = cond_both (is_some (action_of y xs)) _ _ (λ z. length xs ≤ length z) (λ _. omega arith) (λ _. omega (arith, length_push xs y))

longer : (names more : List (List ℕ)) → length names ≤ length (with_names names more)
longer names [] = omega arith
longer names (y ∷ more) = omega (arith, longer-name y names, longer (with_name y names) more)

-- a name that there is no room for would be one too many
pub too_long : (y : List ℕ) (names : List (List ℕ)) → has_room_for y names ≡ false → 64 < length (with_name y names)
too_long y names h =
    let p = or_parts (is_some (action_of y names)) (ltb (length names) 64) h in
    omega (arith, ap length (cond-false (is_some (action_of y names)) names (names ++ y ∷ []) p.0), length_push names y, ltb-false (length names) 64 p.1)

-- a name that there is room for is not
pub fits_still : (y : List ℕ) (names : List (List ℕ)) → has_room_for y names ≡ true → length names ≤ 64 → length (with_name y names) ≤ 64
fits_still y names h few = at (is_some (action_of y names)) h
  where
    at : (b : Bool) → (b || ltb (length names) 64) ≡ true → length (cond b names (names ++ y ∷ [])) ≤ 64
    at true e = few
    at false e = omega (arith, length_push names y, ltb-true (length names) 64 e)

-- the names from a place on, of some that are added to a list
module _ (all : List (List ℕ)) (i : ℕ) (names : List (List ℕ)) (so_far : tau_with all ≡ with_names names (drop i all)) where
  -- the next is added
  pub one_more : (x : List ℕ) → i < length all → x ≡ get_or all i x → tau_with all ≡ with_names (with_name x names) (drop (i + 1) all)
  one_more x h at =
      so_far ∙ at_drop_more (with_names names) all i x h ∙ ap (λ y. with_names (with_name y names) (drop (i + 1) all)) (sym at)

  -- or there is no room for it
  pub one_too_many : (x : List ℕ) → i < length all → x ≡ get_or all i x → has_room_for x names ≡ false → 64 < length (tau_with all)
  one_too_many x h at full =
      omega (arith, ap length (one_more x h at), too_long x names full, longer (with_name x names) (drop (i + 1) all))

  -- no name is left
  pub none_left : length all ≤ i → tau_with all ≡ names
  none_left h = so_far ∙ at_drop_all (with_names names) all i h
