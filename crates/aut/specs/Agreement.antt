-- What is claimed of the AUT form and of the reader's way through a text.
use Rattle.std.specs.Prelude.{◌≡◌, ℕ, List, Some}
use Rattle.aut.specs.declared.header.Header.{Header}
use Rattle.aut.specs.Form.{Transition, Form}
use Rattle.aut.specs.Scanning.{form_of}

-- the reader finds a header and transitions exactly where the text has the form with these
abbrev pub Agreement : Type 0
Agreement =
    (text : List ℕ) (h : Header) (ls : List Transition) →
    (form_of text ≡ Some (h, ls) → Form text h ls) × (Form text h ls → form_of text ≡ Some (h, ls))

-- a text has the form in one way only
abbrev pub OneReading : Type 0
OneReading =
    (text : List ℕ) (h h' : Header) (ls ls' : List Transition) → Form text h ls → Form text h' ls' →
    (h ≡ h') × (ls ≡ ls')
