-- What a function of the reader finds in the tokens that are left.
use Rattle.std.specs.Prelude.{◌≡◌, ℕ, ◌+◌, ◌*◌, ◌<◌, ◌≤◌, List, length, Some, None, Option}
use Rattle.formula.specs.declared.built.Found.{Found}
use Rattle.formula.specs.declared.cursor.Cursor.{Cursor}
use Rattle.formula.specs.Tokens.{Tok}
use Rattle.formula.specs.Places.{unread, ahead}
use Rattle.formula.specs.Reading.{Got}

-- ts read as g, however many steps are granted beyond those that their number asks
abbrev pub Settles : {X : Type 0} → ℕ → List Tok → (ℕ → List Tok → Got X) → Got X → Type 0
Settles b ts F g = (n : ℕ) → 3 * length ts + b < n → F n ts ≡ g

-- Nothing, where nothing is to be read; or a value that stands for what is read, with the tokens
-- after it.
abbrev pub Finds : {X V : Type 0} → (X → V → Type 0) → Cursor → ℕ → (ℕ → List Tok → Got X) →
    Option (Found V) → Type 0
Finds Stands c b F None = Settles b (ahead c) F None
Finds {X} Stands c b F (Some y) =
    (x : X) × Settles b (ahead c) F (Some (x, unread y.rest)) × Stands x y.value
    × (length (unread y.rest) ≤ length (ahead c))
