-- The list of names that a label list holds, and what looking up and adding make of it.
use Rattle.std.specs.Prelude.{◌≡◌, ℕ, Bool, true, false, not, ◌&&◌, ◌||◌, List, [], ◌∷◌, ◌++◌}
use Rattle.std.specs.Prelude.{length, IsTrue, IsFalse, is_some, Some, Ok, Err, codes, Option}
use Rattle.std.specs.Prelude.{Result, nat_lt, if◌then◌else◌}
use Rattle.std.specs.List.{list_all, list_any, position_from, fold}
use Rattle.std.specs.Str.{bytes_eq}
use Rattle.base.specs.Names.{is_name}
use Rattle.base.specs.declared.refusal.Refusal.{Refusal}
use Rattle.base.specs.declared.refusal.Refusal.TheVariants.{Crowded}

-- the place of the first name that is spelled so, counting from k
abbrev pub place : ℕ → List ℕ → List (List ℕ) → Option ℕ
place k name names = position_from (λ x. bytes_eq x name) k names

abbrev pub known : List ℕ → List (List ℕ) → Bool
known name names = list_any (λ x. bytes_eq x name) names

-- The action that a name stands for. (Its own definition: a second spelling of the silent action
-- would change only this.)
abbrev pub action_of : List ℕ → List (List ℕ) → Option ℕ
action_of name names = place 0 name names

abbrev pub all_names : List (List ℕ) → Bool
all_names names = list_all is_name names

abbrev pub distinct : List (List ℕ) → Bool
distinct [] = true
distinct (x ∷ xs) = not (known x xs) && distinct xs

abbrev pub tau_first : List (List ℕ) → Bool
tau_first [] = false
tau_first (x ∷ xs) = bytes_eq x (codes "tau")

-- what every label list keeps: tau first, names only, none twice
abbrev pub lawful : List (List ℕ) → Bool
lawful names = tau_first names && (all_names names && distinct names)

-- The names with one more: it is put at the end, if it stands for no action among them.
abbrev pub with_name : List ℕ → List (List ℕ) → List (List ℕ)
with_name name names = if is_some (action_of name names) then names else names ++ name ∷ []

-- Whether a name can be added: it stands for an action already, or there are fewer than 64 names.
abbrev pub has_room_for : List ℕ → List (List ℕ) → Bool
has_room_for name names = is_some (action_of name names) || nat_lt (length names) 64

-- What adding a name answers, and the names after it: its action among them, or a refusal exactly
-- where there is no room for it.
abbrev pub Adds : List ℕ → (before after : List (List ℕ)) → Result ℕ Refusal → Type 0
Adds name before after (Ok a) =
    IsTrue (has_room_for name before) × (after ≡ with_name name before)
    × (action_of name after ≡ Some a)
Adds name before after (Err e) =
    IsFalse (has_room_for name before) × (e ≡ Crowded) × (after ≡ before)

-- the names with some more, one after another
abbrev pub with_names : List (List ℕ) → List (List ℕ) → List (List ℕ)
with_names names more = fold (λ xs x. with_name x xs) names more
