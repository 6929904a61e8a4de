-- What a pen writes, one piece after another.
use Rattle.std.proofs.Common.{◌≡◌, ℕ, ◌-◌, List, ◌++◌, length, drop, sym, ap, ◌∙◌}
use Rattle.std.proofs.lemmas.List.{append_assoc, length-append, length-drop, drop-drop}
use Rattle.aut.specs.declared.pen.Pen.{Pen}
use Rattle.aut.specs.Pens.{written, room, Wrote}

-- bytes after bytes
pub then_wrote : (p q r : Pen) (x y : List ℕ) → Wrote p x q → Wrote q y r → Wrote p (x ++ y) r
then_wrote p q r x y a b = record {
  written_is = b.written_is ∙ ap (λ z. z ++ y) a.written_is ∙ append_assoc (written p) x y;
  room_is = b.room_is ∙ ap (drop (length y)) a.room_is ∙ drop-drop (length y) (length x) (room p) ∙ ap (λ k. drop k (room p)) (sym (length-append x y));
  text_is = b.text_is ∙ a.text_is;
}

-- the room that is left
pub room_left : (p q : Pen) (x : List ℕ) → Wrote p x q → length (room q) ≡ length (room p) - length x
room_left p q x a = ap length a.room_is ∙ length-drop (length x) (room p)
