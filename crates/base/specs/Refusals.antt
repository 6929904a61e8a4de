-- The number and the word of each refusal, and the number of an answer.
use Rattle.std.specs.Prelude.{ℕ, List, codes, Ok, Err, Result}
use Rattle.base.specs.declared.refusal.Refusal.{Refusal}
use Rattle.base.specs.declared.refusal.Refusal.TheVariants.{Short, Garbled, Range, Crowded, Grammar}
use Rattle.base.specs.declared.refusal.Refusal.TheVariants.{Nameless, Full, Unheard, Silent, TooBig}

abbrev pub number_of : Refusal → ℕ
number_of Short = 1
number_of Garbled = 2
number_of Range = 3
number_of Crowded = 4
number_of Grammar = 5
number_of Nameless = 6
number_of Full = 7
number_of Unheard = 8
number_of Silent = 9
number_of TooBig = 10

abbrev pub word_of : Refusal → List ℕ
word_of Short = codes "short"
word_of Garbled = codes "garbled"
word_of Range = codes "range"
word_of Crowded = codes "crowded"
word_of Grammar = codes "grammar"
word_of Nameless = codes "nameless"
word_of Full = codes "full"
word_of Unheard = codes "unheard"
word_of Silent = codes "silent"
word_of TooBig = codes "too big"

-- the number of an answer: 0, or that of the refusal
abbrev pub answer_number : {T : Type 0} → Result T Refusal → ℕ
answer_number (Ok v) = 0
answer_number (Err e) = number_of e
