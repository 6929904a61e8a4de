-- The AUT form: what the lines of a text are.
use Rattle.std.specs.Prelude.{◌≡◌, ℕ, ◌+◌, ◌-◌, ◌*◌, ◌≤◌, Bool, IsTrue, List, [], ◌∷◌, ◌++◌, length, codes, slice_index_or}
use Rattle.std.specs.List.{fold, list_all}
use Rattle.base.specs.Names.{digit, is_name}
use Rattle.aut.specs.declared.header.Header.{Header}
use Rattle.aut.specs.declared.transition.Edge.{Edge}

-- a transition as a line has it: a state, a label and a state
abbrev pub Transition : Type 0
Transition = Edge (List ℕ)

abbrev pub all_digits : List ℕ → Bool
all_digits bs = list_all digit bs

-- the number that digits write, after a number that is read already
abbrev pub worth : ℕ → List ℕ → ℕ
worth n bs = fold (λ m b. m * 10 + (b - 48)) n bs

-- A numeral: base ten, 1 to 5 digits, no needless leading zero.
pub record Numeral (text : List ℕ) (n : ℕ) : Type 0 where
  pub in_digits : IsTrue (all_digits text)
  pub some_digits : 1 ≤ length text
  pub few_digits : length text ≤ 5
  pub zero_alone : slice_index_or text 0 0 ≡ 48 → length text ≡ 1
  pub writes : worth 0 text ≡ n

-- what may stand after a comma: nothing, or one space
pub data Gap : List ℕ → Type 0 where
  nothing : Gap []
  space : Gap (32 ∷ [])

-- Line one: des (I,M,N)
pub record LineOne (text : List ℕ) (h : Header) : Type 0 where
  pub start : List ℕ
  pub transitions : List ℕ
  pub states : List ℕ
  pub gap : List ℕ
  pub gap' : List ℕ
  pub start_is : Numeral start h.start
  pub transitions_is : Numeral transitions h.transitions
  pub states_is : Numeral states h.states
  pub gap_is : Gap gap
  pub gap_is' : Gap gap'
  pub reads : text ≡ codes "des (" ++ (start
      ++ (codes "," ++ (gap ++ (transitions ++ (codes "," ++ (gap' ++ (states ++ codes ")\n")))))))

-- A further line: (s,"label",t)
pub record FurtherLine (text : List ℕ) (l : Transition) : Type 0 where
  pub from : List ℕ
  pub to : List ℕ
  pub gap : List ℕ
  pub gap' : List ℕ
  pub from_is : Numeral from l.from
  pub label_is : IsTrue (is_name l.label)
  pub to_is : Numeral to l.to
  pub gap_is : Gap gap
  pub gap_is' : Gap gap'
  pub reads : text ≡ codes "(" ++ (from
      ++ (codes "," ++ (gap ++ (codes "\""
      ++ (l.label ++ (codes "\"," ++ (gap' ++ (to ++ codes ")\n"))))))))

-- Further lines, one a transition, and nothing after the last.
pub data Lines : List ℕ → List Transition → Type 0 where
  none : Lines [] []
  more : {x t : List ℕ} {l : Transition} {ls : List Transition} → FurtherLine x l → Lines t ls →
      Lines (x ++ t) (l ∷ ls)

-- A text of the form: line one, then as many lines as it says.
pub record Form (text : List ℕ) (h : Header) (ls : List Transition) : Type 0 where
  pub first : List ℕ
  pub rest : List ℕ
  pub first_is : LineOne first h
  pub rest_is : Lines rest ls
  pub counted : length ls ≡ h.transitions
  pub reads : text ≡ first ++ rest
