-- What a name is: a lower-case letter, then lower-case letters, digits and underscores; 1 to 16
-- bytes in all.
use Rattle.std.specs.Prelude.{ℕ, Bool, false, ◌&&◌, ◌||◌, List, [], ◌∷◌, length, ◌==◌, nat_le}
use Rattle.std.specs.List.{list_all}

abbrev pub letter : ℕ → Bool
letter b = nat_le 97 b && nat_le b 122

abbrev pub digit : ℕ → Bool
digit b = nat_le 48 b && nat_le b 57

abbrev pub name_byte : ℕ → Bool
name_byte b = letter b || (digit b || b == 95)

abbrev pub name_bytes : List ℕ → Bool
name_bytes bs = list_all name_byte bs

abbrev pub begins_name : List ℕ → Bool
begins_name [] = false
begins_name (b ∷ bs) = letter b

abbrev pub is_name : List ℕ → Bool
is_name bs = nat_le (length bs) 16 && (begins_name bs && name_bytes bs)
