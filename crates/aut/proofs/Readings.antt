-- The form and the reader's way through a text agree: the pieces put together to lines, and the lines to a text.
use Rattle.std.proofs.Common.{◌≡◌, ℕ, zero, suc, ◌<◌, true, List, [], ◌∷◌, ◌++◌, length, Some, None, codes, Option, sym, refl, ap, ◌∙◌, subst}
use Rattle.std.specs.Option.{option_map}
use Rattle.std.proofs.lemmas.List.{append_assoc}
use Rattle.std.proofs.lemmas.Option.{same_Some}
use Rattle.base.specs.Names.{is_name}
use Rattle.aut.specs.declared.field.Field.{Field}
use Rattle.aut.specs.declared.field.Field.TheVariants.{D, E, S, Blank, HeadOpen, Start, CountGap, Count, StatesGap, States, HeadEnd, Open, From, LabelGap, Quote, Initial, Comma, ToGap, To, LineEnd}
use Rattle.aut.specs.declared.field.NumberRole.TheVariants.{StartState, LineCount, StateCount, Source, Target}
use Rattle.aut.specs.declared.header.Header.{Header}
use Rattle.aut.specs.Form.{Transition, Numeral, Gap, LineOne, FurtherLine, Lines, none, more, Form, worth}
use Rattle.aut.specs.Scanning.{State, no_head, no_line, begin, scan_on, first_line, next_line, with_line, lines_of, with_head, form_of}
use Rattle.aut.specs.Agreement.{Agreement, OneReading}
use Rattle.aut.proofs.Stages.{Place, Reads, Stage, no_way, shorter, byte_out, gap, number, naming, name, in_parts}

-- a numeral, with the number that it writes
abbrev Number : List ℕ → Type 0
Number x = Numeral x (worth 0 x)

own : (x : List ℕ) {n : ℕ} → Numeral x n → Number x
own x k = record { in_digits = k.in_digits; some_digits = k.some_digits; few_digits = k.few_digits; zero_alone = k.zero_alone; writes = refl }

-- a function on what an option holds: where there is a result, the option held something
pub mapped_out : {A B : Type 0} (f : A → B) (o : Option A) (y : B) → option_map f o ≡ Some y → (x : A) × (o ≡ Some x) × (f x ≡ y)
mapped_out f None y e = no_way _ e
mapped_out f (Some x) y e = (x, refl, cc)

-- line one: its pieces
abbrev heads : ℕ → ℕ → ℕ → Field → State
heads a m n f = record { field = f; number = None; head = record { start = a; transitions = m; states = n }; line = no_line }

start : Stage (begin Start) Number (44 ∷ []) (λ x. heads (worth 0 x) 0 0 CountGap)
start = number Start CountGap 44 StartState no_head no_line (λ b. refl) refl refl refl

module _ (a : ℕ) where
  count_gap : Stage (heads a 0 0 CountGap) Gap [] (λ _. heads a 0 0 Count)
  count_gap = gap CountGap Count (heads a 0 0 Count) (λ b. refl) refl refl

  count : Stage (heads a 0 0 Count) Number (44 ∷ []) (λ x. heads a (worth 0 x) 0 StatesGap)
  count = number Count StatesGap 44 LineCount (heads a 0 0 Count).head no_line (λ b. refl) refl refl refl

  states-gap : (m : ℕ) → Stage (heads a m 0 StatesGap) Gap [] (λ _. heads a m 0 States)
  states-gap m = gap StatesGap States (heads a m 0 States) (λ b. refl) refl refl

  states : (m : ℕ) → Stage (heads a m 0 States) Number (41 ∷ []) (λ x. heads a m (worth 0 x) HeadEnd)
  states m = number States HeadEnd 41 StateCount (heads a m 0 States).head no_line (λ b. refl) refl refl refl

-- its text, and what follows
abbrev head_text : List ℕ → List ℕ → List ℕ → List ℕ → List ℕ → List ℕ → List ℕ
head_text a g m g' n t = codes "des (" ++ (a ++ (codes "," ++ (g ++ (m ++ (codes "," ++ (g' ++ (n ++ (codes ")\n" ++ t))))))))

head-then : (a g m g' n t : List ℕ) → head_text a g m g' n [] ++ t ≡ head_text a g m g' n t
head-then a g m g' n t = simp append_assoc

-- the reader goes through a line one, and through nothing else from there
head_in : (x t : List ℕ) (h : Header) → LineOne x h → (s : State) × Reads (begin D) (x ++ t) (s, t) × (s.head ≡ h)
head_in x t h k =
    let a : ℕ = worth 0 k.start in
    let m : ℕ = worth 0 k.transitions in
    let s : State = heads a m (worth 0 k.states) Open in (
      s,
      subst (λ y. Reads (begin D) y (s, t)) (sym (ap (λ y. y ++ t) k.reads ∙ head-then k.start k.gap k.transitions k.gap' k.states t))
          (start.forth k.start _ (own _ k.start_is)
          ((count_gap a).forth k.gap _ k.gap_is
          ((count a).forth k.transitions _ (own _ k.transitions_is)
          ((states-gap a m).forth k.gap' _ k.gap_is'
          ((states a m).forth k.states (10 ∷ t) (own _ k.states_is) refl))))),
      simp (k.start_is.writes, k.transitions_is.writes, k.states_is.writes),
    )

head_out : (t : List ℕ) (s : State) (t' : List ℕ) → Reads (begin D) t (s, t') → (x : List ℕ) × LineOne x s.head × (t ≡ x ++ t')
head_out t s t' e =
    let G : Type 0 = (x : List ℕ) × LineOne x s.head × (t ≡ x ++ t') in
    byte_out (begin D) E 100 (λ b. refl) G t e (λ t₁ p₁ e₁.
    byte_out (begin E) S 101 (λ b. refl) G t₁ e₁ (λ t₂ p₂ e₂.
    byte_out (begin S) Blank 115 (λ b. refl) G t₂ e₂ (λ t₃ p₃ e₃.
    byte_out (begin Blank) HeadOpen 32 (λ b. refl) G t₃ e₃ (λ t₄ p₄ e₄.
    byte_out (begin HeadOpen) Start 40 (λ b. refl) G t₄ e₄ (λ t₅ p₅ e₅.
    in_parts G (start.back t₅ e₅) (λ a t₆ a-is p₆ e₆.
    in_parts G ((count_gap (worth 0 a)).back t₆ e₆) (λ g t₇ g-is p₇ e₇.
    in_parts G ((count (worth 0 a)).back t₇ e₇) (λ m t₈ m-is p₈ e₈.
    in_parts G ((states-gap (worth 0 a) (worth 0 m)).back t₈ e₈) (λ g' t₉ g-is' p₉ e₉.
    in_parts G ((states (worth 0 a) (worth 0 m)).back t₉ e₉) (λ n u n-is p e'.
    byte_out (heads (worth 0 a) (worth 0 m) (worth 0 n) HeadEnd) Open 10 (λ b. refl) G u e' (λ u' q e''.
    let x : List ℕ = head_text a g m g' n [] in
    let o = same_Some _ _ e'' in
    let o' : u' ≡ t' = ap (λ y. y.1) o in (
      x,
      subst (λ y. LineOne x y.head) (ap (λ y. y.0) o)
          (record {
            start = a;
            transitions = m;
            states = n;
            gap = g;
            gap' = g';
            start_is = a-is;
            transitions_is = m-is;
            states_is = n-is;
            gap_is = g-is;
            gap_is' = g-is';
            reads = refl;
          }),
      cc (head-then a g m g' n t'),
    ))))))))))))

pub line-one_in : (x t : List ℕ) (h : Header) → LineOne x h → first_line (x ++ t) ≡ Some (h, t)
line-one_in x t h k = let q = head_in x t h k in ap (option_map (λ (p : Place). (p.0.head, p.1))) q.1 ∙ ap (λ g. Some (g, t)) q.2

pub line_one_out : (t : List ℕ) (h : Header) (t' : List ℕ) → first_line t ≡ Some (h, t') → (x : List ℕ) × LineOne x h × (t ≡ x ++ t')
line_one_out t h t' e =
    let q = mapped_out (λ (p : Place). (p.0.head, p.1)) (scan_on (begin D) t) (h, t') e in
    subst (λ (p : Header × List ℕ). (x : List ℕ) × LineOne x p.0 × (t ≡ x ++ p.1)) q.2 (head_out t q.0.0 q.0.1 q.1)

-- it takes bytes
pub first_shorter : (t : List ℕ) (h : Header) (t' : List ℕ) → first_line t ≡ Some (h, t') → length t' < length t
first_shorter t h t' e =
    let q = mapped_out (λ (p : Place). (p.0.head, p.1)) (scan_on (begin D) t) (h, t') e in
    subst (λ (p : Header × List ℕ). length p.1 < length t) q.2 (shorter (begin D) q.0.0 t q.0.1 q.1)

-- a further line: its pieces
source : Stage (begin From) Number (44 ∷ []) (λ x. naming (worth 0 x) LabelGap [])
source = number From LabelGap 44 Source no_head no_line (λ b. refl) refl refl refl

module _ (a : ℕ) where
  label-gap : Stage (naming a LabelGap []) Gap [] (λ _. naming a Quote [])
  label-gap = gap LabelGap Quote (naming a Quote []) (λ b. refl) refl refl

  to-gap : (y : List ℕ) → Stage (naming a ToGap y) Gap [] (λ _. naming a To y)
  to-gap y = gap ToGap To (naming a To y) (λ b. refl) refl refl

abbrev lined : ℕ → List ℕ → ℕ → Field → State
lined a y z f = record { field = f; number = None; head = no_head; line = record { from = a; label = y; to = z } }

target : (a : ℕ) (y : List ℕ) → Stage (naming a To y) Number (41 ∷ []) (λ x. lined a y (worth 0 x) LineEnd)
target a y = number To LineEnd 41 Target no_head (naming a To y).line (λ b. refl) refl refl refl

-- its text, and what follows
abbrev line_text : List ℕ → List ℕ → List ℕ → List ℕ → List ℕ → List ℕ → List ℕ
line_text a g y g' z t = codes "(" ++ (a ++ (codes "," ++ (g ++ (codes "\"" ++ (y ++ (codes "\"," ++ (g' ++ (z ++ (codes ")\n" ++ t)))))))))

line-then : (a g y g' z t : List ℕ) → line_text a g y g' z [] ++ t ≡ line_text a g y g' z t
line-then a g y g' z t = simp append_assoc

-- the reader goes through a further line, and through nothing else from there
pieces_in : (x t : List ℕ) (l : Transition) → FurtherLine x l → (s : State) × Reads (begin Open) (x ++ t) (s, t) × (s.line ≡ l)
pieces_in x t l k =
    let a : ℕ = worth 0 k.from in
    let y : List ℕ = l.label in
    let s : State = lined a y (worth 0 k.to) Open in (
      s,
      subst (λ y. Reads (begin Open) y (s, t)) (sym (ap (λ y. y ++ t) k.reads ∙ line-then k.from k.gap y k.gap' k.to t))
          (source.forth k.from _ (own _ k.from_is)
          ((label-gap a).forth k.gap (34 ∷ (y ++ 34 ∷ 44 ∷ (k.gap' ++ (k.to ++ 41 ∷ 10 ∷ t)))) k.gap_is
          ((name a).forth y (44 ∷ (k.gap' ++ (k.to ++ 41 ∷ 10 ∷ t))) k.label_is
          ((to-gap a y).forth k.gap' _ k.gap_is'
          ((target a y).forth k.to (10 ∷ t) (own _ k.to_is) refl))))),
      simp (k.from_is.writes, k.to_is.writes),
    )

pieces_out : (t : List ℕ) (s : State) (t' : List ℕ) → Reads (begin Open) t (s, t') → (x : List ℕ) × FurtherLine x s.line × (t ≡ x ++ t')
pieces_out t s t' e =
    let G : Type 0 = (x : List ℕ) × FurtherLine x s.line × (t ≡ x ++ t') in
    byte_out (begin Open) From 40 (λ b. refl) G t e (λ t₁ p₁ e₁.
    in_parts G (source.back t₁ e₁) (λ a t₂ a-is p₂ e₂.
    in_parts G ((label-gap (worth 0 a)).back t₂ e₂) (λ g t₃ g-is p₃ e₃.
    byte_out (naming (worth 0 a) Quote []) Initial 34 (λ b. refl) G t₃ e₃ (λ t₄ p₄ e₄.
    in_parts G ((name (worth 0 a)).back t₄ e₄) (λ y t₅ y-is p₅ e₅.
    byte_out (naming (worth 0 a) Comma y) ToGap 44 (λ b. refl) G t₅ e₅ (λ t₆ p₆ e₆.
    in_parts G ((to-gap (worth 0 a) y).back t₆ e₆) (λ g' t₇ g-is' p₇ e₇.
    in_parts G ((target (worth 0 a) y).back t₇ e₇) (λ z t₈ z-is p₈ e₈.
    byte_out (lined (worth 0 a) y (worth 0 z) LineEnd) Open 10 (λ b. refl) G t₈ e₈ (λ t₉ p₉ e₉.
    let x : List ℕ = line_text a g y g' z [] in
    let o = same_Some _ _ e₉ in
    let o' : t₉ ≡ t' = ap (λ y. y.1) o in (
      x,
      subst (λ y. FurtherLine x y.line) (ap (λ y. y.0) o)
          (record { from = a; to = z; gap = g; gap' = g'; from_is = a-is; label_is = y-is; to_is = z-is; gap_is = g-is; gap_is' = g-is'; reads = refl }),
      cc (line-then a g y g' z t'),
    ))))))))))

further_in : (x t : List ℕ) (l : Transition) → FurtherLine x l → next_line (x ++ t) ≡ Some (l, t)
further_in x t l k = let q = pieces_in x t l k in ap (option_map (λ (p : Place). (p.0.line, p.1))) q.1 ∙ ap (λ y. Some (y, t)) q.2

further_out : (t : List ℕ) (l : Transition) (t' : List ℕ) → next_line t ≡ Some (l, t') → (x : List ℕ) × FurtherLine x l × (t ≡ x ++ t')
further_out t l t' e =
    let q = mapped_out (λ (p : Place). (p.0.line, p.1)) (scan_on (begin Open) t) (l, t') e in
    subst (λ (p : Transition × List ℕ). (x : List ℕ) × FurtherLine x p.0 × (t ≡ x ++ p.1)) q.2 (pieces_out t q.0.0 q.0.1 q.1)

-- its label is a name
pub next_named : (t : List ℕ) (l : Transition) (t' : List ℕ) → next_line t ≡ Some (l, t') → is_name l.label ≡ true
next_named t l t' e = (further_out t l t' e).1.label_is

-- it takes bytes
pub next_shorter : (t : List ℕ) (l : Transition) (t' : List ℕ) → next_line t ≡ Some (l, t') → length t' < length t
next_shorter t l t' e =
    let q = mapped_out (λ (p : Place). (p.0.line, p.1)) (scan_on (begin Open) t) (l, t') e in
    subst (λ (p : Transition × List ℕ). length p.1 < length t) q.2 (shorter (begin Open) q.0.0 t q.0.1 q.1)

-- the lines after line one
lines_in : {t : List ℕ} {ls : List Transition} → Lines t ls → lines_of (length ls) t ≡ Some ls
lines_in none = refl
lines_in (more {x} {t} {l} {ls} k rest) = ap (λ o. with_line o (lines_of (length ls))) (further_in x t l k) ∙ ap (option_map (λ ys. l ∷ ys)) (lines_in rest)

lines_out : (m : ℕ) (t : List ℕ) (ls : List Transition) → lines_of m t ≡ Some ls → Lines t ls × (length ls ≡ m)
lines_out zero [] ls e = let o : [] ≡ ls = cc in subst (λ ys. Lines [] ys × (length ys ≡ 0)) o (none, refl)
lines_out zero (b ∷ t) ls e = no_way _ e
lines_out (suc m) t ls e = at (lines_out m) (next_line t) refl e
  where
    at : ((t : List ℕ) (ls : List Transition) → lines_of m t ≡ Some ls → Lines t ls × (length ls ≡ m)) →
        (o : Option (Transition × List ℕ)) → next_line t ≡ o → with_line o (lines_of m) ≡ Some ls → Lines t ls × (length ls ≡ suc m)
    at rest None h e = no_way _ e
    at rest (Some p) h e =
        let q = mapped_out (λ ys. p.0 ∷ ys) (lines_of m p.1) ls e in
        let k = further_out t p.0 p.1 h in
        let r = rest p.1 q.0 q.1 in
        subst (λ ys. Lines t ys × (length ys ≡ suc m)) q.2
        (subst (λ y. Lines y (p.0 ∷ q.0)) (sym k.2) (more k.1 r.0), ap suc r.1)

-- the whole text
form_in : (text : List ℕ) (h : Header) (ls : List Transition) → Form text h ls → form_of text ≡ Some (h, ls)
form_in text h ls k =
    ap form_of k.reads ∙ ap with_head (line-one_in k.first k.rest h k.first_is)
    ∙ ap (λ m. option_map (λ ys. (h, ys)) (lines_of m k.rest)) (sym k.counted) ∙ ap (option_map (λ ys. (h, ys))) (lines_in k.rest_is)

form_out : (text : List ℕ) (h : Header) (ls : List Transition) → form_of text ≡ Some (h, ls) → Form text h ls
form_out text h ls e = at (first_line text) refl e
  where
    at : (o : Option (Header × List ℕ)) → first_line text ≡ o → with_head o ≡ Some (h, ls) → Form text h ls
    at None i e = no_way _ e
    at (Some p) i e =
        let q = mapped_out (λ ys. (p.0, ys)) (lines_of p.0.transitions p.1) (h, ls) e in
        let k = line_one_out text p.0 p.1 i in
        let r = lines_out p.0.transitions p.1 q.0 q.1 in
        subst (λ y. Form text y.0 y.1) q.2 (record { first = k.0; rest = p.1; first_is = k.1; rest_is = r.0; counted = r.1; reads = k.2 })

pub agreement : Agreement
agreement text h ls = (form_out text h ls, form_in text h ls)

pub one_reading : OneReading
one_reading text h h' ls ls' k k' =
    let p = same_Some _ _ (sym (form_in text h ls k) ∙ form_in text h' ls' k') in
    (ap (λ y. y.0) p, ap (λ y. y.1) p)
