-- The actions that an action formula stands for, by a list of names.
use Rattle.std.specs.Prelude.{◌≡◌, ℕ, Bool, false, not, ◌&&◌, ◌||◌, List, Some, None, Option, ◌==◌, nat_lt}
use Rattle.base.specs.Listing.{action_of}
use Rattle.base.specs.declared.action_set.ActionSet.{ActionSet}
use Rattle.base.specs.Sets.{holds}
use Rattle.formula.specs.declared.built.Found.{Found}
use Rattle.formula.specs.declared.cursor.Cursor.{Cursor}
use Rattle.formula.specs.Finding.{Finds}
use Rattle.formula.specs.Reading.{Stage, Reader, Got, read, rank, action_rules}
use Rattle.formula.specs.Tokens.{Tok}
use Rattle.formula.specs.Vocabulary.{Vocabulary, vocabulary}
use Rattle.formula.specs.Trees.{Acts, all, none, silent, named, complement, intersection, union}

-- one of the 64 actions
abbrev pub action_is : Option ℕ → ℕ → Bool
action_is None a = false
action_is (Some k) a = nat_lt a 64 && a == k

-- NOT, AND and OR are complement, intersection and union within the 64 actions; TRUE is all 64, TAU
-- is action 0
abbrev pub set_of : List (List ℕ) → Acts → ℕ → Bool
set_of names all a = nat_lt a 64
set_of names none a = false
set_of names silent a = action_is (Some 0) a
set_of names (named w) a = action_is (action_of w names) a
set_of names (complement c) a = nat_lt a 64 && not (set_of names c a)
set_of names (intersection c d) a = set_of names c a && set_of names d a
set_of names (union c d) a = set_of names c a || set_of names d a

abbrev pub IsSet : Vocabulary → Acts → ActionSet → Type 0
IsSet v c s = (a : ℕ) → holds s a ≡ set_of v.labels c a

abbrev pub Chooses : Cursor → Stage Acts → Option (Found ActionSet) → Type 0
Chooses c l r = Finds (IsSet (vocabulary c.names)) c (rank l) (λ n. read action_rules n l) r

-- the same, by how a reader goes on
abbrev pub ChoosesBy : Cursor → (Reader Acts → List Tok → Got Acts) → Option (Found ActionSet) →
    Type 0
ChoosesBy c F r = Finds (IsSet (vocabulary c.names)) c 3 (λ n. F (read action_rules n)) r
