-- What a pen has written, and the room that it has left.
use Rattle.std.specs.Prelude.{◌≡◌, ℕ, List, ◌++◌, length, take, drop}
use Rattle.std.specs.List.{flat_map}
use Rattle.std.specs.Borrow.{Bor}
use Rattle.aut.specs.declared.pen.Pen.{Pen}

abbrev pub written : Pen → List ℕ
written p = take p.at p.text.now

abbrev pub room : Pen → List ℕ
room p = drop p.at p.text.now

-- pieces of text, one after another
abbrev pub joined : List (Bor (List ℕ)) → List ℕ
joined ps = flat_map (λ p. p.now) ps

-- A pen has written some bytes more, over the beginning of its room.
pub record Wrote (before : Pen) (bytes : List ℕ) (after : Pen) : Type 0 where
  pub written_is : written after ≡ written before ++ bytes
  pub room_is : room after ≡ drop (length bytes) (room before)
  pub text_is : after.text.ghost_name ≡ before.text.ghost_name
