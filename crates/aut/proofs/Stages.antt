-- The pieces of a line, one by one: the reader goes through a piece exactly where the text has one.
use Rattle.std.proofs.Common.{◌≡◌, ℕ, suc, ◌+◌, ◌-◌, ◌*◌, ◌<◌, ◌≤◌, Bool, true, false, cond, not, ◌&&◌, ◌||◌, eqb, ltb, leb, List, [], ◌∷◌, ◌++◌, length, get_or, Some, None, Option, sym, refl, ap, ◌∙◌, subst, ⊎_elim, arith}
use Rattle.std.specs.Option.{option_map, option_and_then}
use Rattle.std.proofs.lemmas.List.{append_assoc, append-nil, length_push}
use Rattle.std.proofs.lemmas.Option.{none-some}
use Rattle.std.proofs.lemmas.Bool.{ltb-true, leb-true, eqb-true, eqb-false, lt-ltb, le-leb, le-ltb, eq-eqb, ne_eqb, and_parts, and_from, and_left, and_right, not_from_true, not_from_false, cases_eq, cases_lt, or_left, both_ways, cond-true, cond-false, cond_both}
use Rattle.std.proofs.lemmas.Bool.Decides.{nat_tests}
use Rattle.base.specs.Names.{letter, digit, name_byte, name_bytes, is_name}
use Rattle.aut.specs.declared.field.Field.{Field}
use Rattle.aut.specs.declared.field.Field.TheVariants.{Initial, Label, Comma}
use Rattle.aut.specs.declared.field.NumberRole.{NumberRole}
use Rattle.aut.specs.declared.field.Effect.{Effect}
use Rattle.aut.specs.declared.field.Effect.TheVariants.{Next, Digit, Letter, Store}
use Rattle.aut.specs.declared.header.Header.{Header}
use Rattle.aut.specs.Form.{Transition, Numeral, Gap, nothing, space, all_digits, worth}
use Rattle.aut.specs.Scanning.{State, only, numeral, no_head, effect_of, effected, next, goes, with_digit, head_with, line_with, at_line, go_on, scan_on}

abbrev pub Place : Type 0
Place = State × List ℕ

-- from this state the reader goes through the text to the place after the line
abbrev pub Reads : State → List ℕ → Place → Type 0
Reads s t r = scan_on s t ≡ Some r

-- the same of what a byte has led to
abbrev pub Arrives : Option State → List ℕ → Place → Type 0
Arrives o t r = go_on o t (λ z. scan_on z t) ≡ Some r

-- None is never Some
pub no_way : {X : Type 0} (A : Type 0) {x : X} → None ≡ Some x → A
no_way A e = absurd (none-some _ e)

onward : (s : State) (t : List ℕ) {r : Place} → at_line s.field ≡ false → Arrives (Some s) t r → Reads s t r
onward s t o e = sym (cond-false _ _ _ o) ∙ e

arrived : (s : State) (t : List ℕ) {r : Place} → at_line s.field ≡ false → Reads s t r → Arrives (Some s) t r
arrived s t o e = cond-false _ _ _ o ∙ e

-- a line takes bytes
pub shorter : (s s' : State) (t t' : List ℕ) → Reads s t (s', t') → length t' < length t
shorter s s' [] t' e = no_way _ e
shorter s s' (b ∷ t) t' e = by-next (next s b) (λ z. shorter z s' t t') e
  where
    by-next : (o : Option State) → ((z : State) → Reads z t (s', t') → length t' < length t) → Arrives o t (s', t') → length t' < suc (length t)
    by-next None rest a = no_way _ a
    by-next (Some z) rest a =
        cond_both (at_line z.field) (Some (z, t)) (scan_on z t) (λ x. x ≡ Some (s', t') → length t' < suc (length t))
        (λ _ k. let p : ◌≡◌ {A = Place} (z, t) (s', t') = cc in omega (arith, ap (λ y. length y.1) p))
        (λ _ k. omega (arith, rest z k))
        a

-- what a turn comes to, if there is one
abbrev pub turned_by : ℕ → State → Option Effect → Option State
turned_by b s = option_and_then (effected b s)

-- one byte that leads on
steps : (s s' : State) (b : ℕ) (t : List ℕ) {r : Place} → next s b ≡ Some s' → at_line s'.field ≡ false → Reads s' t r → Reads s (b ∷ t) r
steps s s' b t {r} e o h = subst (λ x. Arrives x t r) (sym e) (arrived s' t o h)

-- a text that begins with a piece and the bytes that end it, and the way from there
pub record Split (Piece : List ℕ → Type 0) (stop : List ℕ) (leads : List ℕ → State) (t : List ℕ) (r : Place) : Type 0 where
  pub piece : List ℕ
  pub rest : List ℕ
  pub is : Piece piece
  pub splits : t ≡ piece ++ (stop ++ rest)
  pub goes_on : Reads (leads piece) rest r

-- the way through a piece, in both directions
pub record Stage (s : State) (Piece : List ℕ → Type 0) (stop : List ℕ) (leads : List ℕ → State) : Type 0 where
  pub forth : (x t : List ℕ) {r : Place} → Piece x → Reads (leads x) t r → Reads s (x ++ (stop ++ t)) r
  pub back : (t : List ℕ) {r : Place} → Reads s t r → Split Piece stop leads t r

-- the parts under names of their own
pub in_parts : {Piece : List ℕ → Type 0} {stop : List ℕ} {leads : List ℕ → State} {t : List ℕ} {r : Place} (G : Type 0) → Split Piece stop leads t r →
    ((x t' : List ℕ) → Piece x → t ≡ x ++ (stop ++ t') → Reads (leads x) t' r → G) → G
in_parts G k f = f k.piece k.rest k.is k.splits k.goes_on

-- one byte, and no other
module _ (s : State) (f : Field) (c : ℕ) (law : (b : ℕ) → effect_of s.field b ≡ only c b (Next f)) where
  pub byte_out : (G : Type 0) (t : List ℕ) {r : Place} → Reads s t r → ((t' : List ℕ) → t ≡ c ∷ t' → Arrives (Some (goes f s)) t' r → G) → G
  byte_out G [] e k = no_way _ e
  byte_out G (b ∷ t) {r} e k =
      cond_both (eqb b c) (Some (Next f)) None (λ x. Arrives (turned_by b s x) t r → G)
      (λ h a. k t (ap (λ x. x ∷ t) (eqb-true b c h)) a)
      (λ _ a. no_way _ a)
      (subst (λ x. Arrives (turned_by b s x) t r) (law b) e)

-- a gap: one space is passed over, and what comes after it is read as if it were not there
module _ (g f : Field) (s : State) (law : (b : ℕ) → effect_of g b ≡ cond (eqb b 32) (Some (Next f)) (effect_of f b)) (shut : effect_of f 32 ≡ None) (more : at_line f ≡ false) where
  same_turn : (x : Option Effect) (b : ℕ) → turned_by b (goes f s) x ≡ turned_by b (goes g s) x
  same_turn None b = refl
  same_turn (Some (Next h)) b = refl
  same_turn (Some (Digit h)) b = refl
  same_turn (Some Letter) b = refl
  same_turn (Some (Store p h)) b = refl

  gap_in : (x t : List ℕ) {r : Place} → Gap x → Reads (goes f s) t r → Reads (goes g s) (x ++ t) r
  gap_in _ t space e = steps (goes g s) (goes f s) 32 t (ap (λ x. turned_by 32 (goes g s) x) (law 32)) more e
  gap_in _ [] nothing e = no_way _ e
  gap_in _ (b ∷ t) {r} nothing e =
      subst (λ x. Arrives (turned_by b (goes g s) x) t r) (sym (law b))
      (cond_both (eqb b 32) (Some (Next f)) (effect_of f b) (λ x. Arrives (turned_by b (goes g s) x) t r)
      (λ h. no_way _ (subst (λ x. Arrives (turned_by b (goes f s) x) t r) (ap (effect_of f) (eqb-true b 32 h) ∙ shut) e))
      (λ _. subst (λ x. Arrives x t r) (same_turn (effect_of f b) b) e))

  gap_out : (t : List ℕ) {r : Place} → Reads (goes g s) t r → Split Gap [] (λ _. goes f s) t r
  gap_out [] e = no_way _ e
  gap_out (b ∷ t) {r} e =
      cond_both (eqb b 32) (Some (Next f)) (effect_of f b) (λ x. Arrives (turned_by b (goes g s) x) t r → Split Gap [] (λ _. goes f s) (b ∷ t) r)
      (λ h a. record { piece = 32 ∷ []; rest = t; is = space; splits = ap (λ x. x ∷ t) (eqb-true b 32 h); goes_on = onward (goes f s) t more a })
      (λ _ a. record { piece = []; rest = b ∷ t; is = nothing; splits = refl; goes_on = subst (λ x. Arrives x t r) (sym (same_turn (effect_of f b) b)) a })
      (subst (λ x. Arrives (turned_by b (goes g s) x) t r) (law b) e)

  pub gap : Stage (goes g s) Gap [] (λ _. goes f s)
  gap = record { forth = gap_in; back = gap_out }

-- the number that d digits write, if there are any
abbrev held : ℕ → ℕ → Option ℕ
held v d = cond (eqb d 0) None (Some v)

held_more : (v d : ℕ) → held v (d + 1) ≡ Some v
held_more v d = cond-false _ _ _ (ne_eqb (d + 1) 0 (λ e. absurd (omega arith)))

-- another digit may come: at most 5, and none after a leading zero
abbrev takes_digit : ℕ → ℕ → Bool
takes_digit v d = not (leb 5 d || (eqb d 1 && eqb v 0))

-- how large a number of d digits is
data Sized : ℕ → ℕ → Type 0 where
  none : Sized 0 0
  one : {v : ℕ} → v < 10 → Sized v 1
  two : {v : ℕ} → 10 ≤ v → v < 100 → Sized v 2
  three : {v : ℕ} → 100 ≤ v → v < 1000 → Sized v 3
  four : {v : ℕ} → 1000 ≤ v → v < 10000 → Sized v 4
  five : {v : ℕ} → 10000 ≤ v → Sized v 5

sized-more : {v d : ℕ} (w : ℕ) → w < 10 → takes_digit v d ≡ true → Sized v d → Sized (v * 10 + w) (d + 1)
sized-more w h u none = one (omega arith)
sized-more w h u (one p) = two (grind (arith, nat_tests)) (omega arith)
sized-more w h u (two p q) = three (omega arith) (omega arith)
sized-more w h u (three p q) = four (omega arith) (omega arith)
sized-more w h u (four p q) = five (omega arith)
sized-more w h u (five p) = absurd (both_ways false refl u)

-- so the number alone tells whether another digit may come
told : {v d : ℕ} (w : ℕ) → Sized v d → with_digit w (held v d) ≡ cond (takes_digit v d) (Some (v * 10 + w)) None
told w none = let e : w ≡ 0 * 10 + w = omega arith in ap Some e
told {v} w (one p) = ap (λ b. cond b (Some (v * 10 + w)) None) tests
  where
    above : (v ≡ 0 → ⊥) → 0 < v
    above n = ⊎_elim (λ h. h) (λ h. absurd (n (omega arith))) (cases_lt 0 v)

    tests : (ltb 0 v && ltb v 10000) ≡ not (eqb v 0)
    tests =
        ⊎_elim
        (λ z. and_left _ _ (le-ltb 0 v (omega arith)) ∙ sym (not_from_true _ (eq-eqb v 0 z)))
        (λ n. and_from _ _ (lt-ltb 0 v (above n)) (lt-ltb v 10000 (omega arith)) ∙ sym (not_from_false _ (ne_eqb v 0 n)))
        (cases_eq v 0)
told {v} w (two p q) = cond-true (ltb 0 v && ltb v 10000) _ _ (and_from _ _ (lt-ltb 0 v (omega arith)) (lt-ltb v 10000 (omega arith)))
told {v} w (three p q) = cond-true (ltb 0 v && ltb v 10000) _ _ (and_from _ _ (lt-ltb 0 v (omega arith)) (lt-ltb v 10000 (omega arith)))
told {v} w (four p q) = cond-true (ltb 0 v && ltb v 10000) _ _ (and_from _ _ (lt-ltb 0 v (omega arith)) (lt-ltb v 10000 (omega arith)))
told {v} w (five p) = cond-false (ltb 0 v && ltb v 10000) _ _ (and_right _ _ (le-ltb v 10000 p))

-- what may still come of a numeral with number v in d digits
record Rest (v d : ℕ) (x : List ℕ) : Type 0 where
  in_digits : all_digits x ≡ true
  some_digits : 1 ≤ d + length x
  few_digits : d + length x ≤ 5
  zero_read : d ≡ 1 → v ≡ 0 → length x ≡ 0
  zero_alone : d ≡ 0 → get_or x 0 0 ≡ 48 → length x ≡ 1

digit-low : (b : ℕ) → digit b ≡ true → b - 48 < 10
digit-low b h = grind (arith, nat_tests)

-- one digit less to come, and one more
module _ (v d b : ℕ) (x : List ℕ) where
  less : Rest v d (b ∷ x) → (digit b ≡ true) × (takes_digit v d ≡ true) × Rest (v * 10 + (b - 48)) (d + 1) x
  less k =
      let p = and_parts (digit b) (all_digits x) k.in_digits in
      let low : 48 ≤ b = leb-true 48 b (and_parts (leb 48 b) (leb b 57) p.0).0 in
      let few : d + suc (length x) ≤ 5 = k.few_digits in
      let one : d ≡ 1 → v ≡ 0 → ⊥ = λ e z. absurd (omega (arith, k.zero_read e z)) in
      let taken : takes_digit v d ≡ true = grind (arith, nat_tests) in (
        p.0,
        taken,
        record {
          in_digits = p.1;
          some_digits = omega arith;
          few_digits = omega arith;
          zero_read = λ e z. let none : d ≡ 0 = omega arith in let is : b ≡ 48 = omega arith in omega (arith, k.zero_alone none is);
          zero_alone = λ e. absurd (omega arith);
        },
      )

  more : (d ≡ 0 → v ≡ 0) → digit b ≡ true → takes_digit v d ≡ true → Rest (v * 10 + (b - 48)) (d + 1) x → Rest v d (b ∷ x)
  more z h u k =
      let one : d ≡ 1 → v ≡ 0 → ⊥ = λ e n. grind (arith, nat_tests) in
      record {
        in_digits = and_from _ _ h k.in_digits;
        some_digits = omega arith;
        few_digits = omega (arith, k.few_digits);
        zero_read = λ e n. absurd (one e n);
        zero_alone = λ e is. let none : v ≡ 0 = z e in let next_one : d + 1 ≡ 1 = omega arith in let nought : v * 10 + (b - 48) ≡ 0 = omega arith in omega (arith, k.zero_read next_one nought);
      }

-- where the reader stands in a numeral, and after it
abbrev pub counting : Field → Header → Transition → ℕ → ℕ → State
counting f h l v d = record { field = f; number = held v d; head = h; line = l }

abbrev pub counted : NumberRole → Field → Header → Transition → ℕ → State
counted p f h l n = record { field = f; number = None; head = head_with p n h; line = line_with p n l }

-- a numeral and the byte that ends it
module _ (f g : Field) (c : ℕ) (p : NumberRole) (h : Header) (l : Transition)
    (law : (b : ℕ) → effect_of f b ≡ numeral f c p g b) (stop : digit c ≡ false) (on-f : at_line f ≡ false) (on-g : at_line g ≡ false) where
  digit-step : (v d b : ℕ) → Sized v d → turned_by b (counting f h l v d) (Some (Digit f)) ≡ cond (takes_digit v d) (Some (counting f h l (v * 10 + (b - 48)) (d + 1))) None
  digit-step v d b k = ap (option_map G) (told (b - 48) k) ∙ cases (takes_digit v d)
    where
      G : ℕ → State
      G n = record { field = f; number = Some n; head = h; line = l }

      cases : (a : Bool) → option_map G (cond a (Some (v * 10 + (b - 48))) None) ≡ cond a (Some (counting f h l (v * 10 + (b - 48)) (d + 1))) None
      cases true = ap (λ o. Some (record { field = f; number = o; head = h; line = l })) (sym (held_more (v * 10 + (b - 48)) d))
      cases false = refl

  store-step : (v d b : ℕ) → turned_by b (counting f h l v d) (Some (Store p g)) ≡ cond (eqb d 0) None (Some (counted p g h l v))
  store-step v d b = cases (eqb d 0)
    where
      cases : (a : Bool) → option_map (counted p g h l) (cond a None (Some v)) ≡ cond a None (Some (counted p g h l v))
      cases true = refl
      cases false = refl

  digits_in : (x t : List ℕ) (v d : ℕ) {r : Place} → Sized v d → Rest v d x → Reads (counted p g h l (worth v x)) t r → Reads (counting f h l v d) (x ++ c ∷ t) r
  digits_in [] t v d z k e =
      let some : eqb d 0 ≡ false = ne_eqb d 0 (λ z. absurd (omega (arith, k.some_digits))) in
      steps (counting f h l v d) (counted p g h l v) c t
      (ap (λ x. turned_by c (counting f h l v d) x) (law c ∙ cond-false _ _ _ stop ∙ cond-true _ _ _ (eq-eqb c c refl)) ∙ store-step v d c ∙ cond-false _ _ _ some) on-g e
  digits_in (b ∷ x) t v d z k e =
      let q = less v d b x k in
      steps (counting f h l v d) (counting f h l (v * 10 + (b - 48)) (d + 1)) b (x ++ c ∷ t)
      (ap (λ x. turned_by b (counting f h l v d) x) (law b ∙ cond-true _ _ _ q.0) ∙ digit-step v d b z ∙ cond-true _ _ _ q.1) on-f
      (digits_in x t (v * 10 + (b - 48)) (d + 1) (sized-more (b - 48) (digit-low b q.0) q.1 z) q.2 e)

  digits_out : (t : List ℕ) (v d : ℕ) {r : Place} → d ≤ 5 → (d ≡ 0 → v ≡ 0) → Sized v d → Reads (counting f h l v d) t r →
      Split (Rest v d) (c ∷ []) (λ x. counted p g h l (worth v x)) t r
  digits_out [] v d few z k e = no_way _ e
  digits_out (b ∷ t) v d {r} few z k e =
      let S : Type 0 = Split (Rest v d) (c ∷ []) (λ x. counted p g h l (worth v x)) (b ∷ t) r in
      cond_both (digit b) (Some (Digit f)) (only c b (Store p g)) (λ x. Arrives (turned_by b (counting f h l v d) x) t r → S)
      (λ i a. cond_both (takes_digit v d) (Some (counting f h l (v * 10 + (b - 48)) (d + 1))) None (λ x. Arrives x t r → S)
      (λ u a.
      let room : d + 1 ≤ 5 = grind (arith, nat_tests) in
      let k = digits_out t (v * 10 + (b - 48)) (d + 1) room (λ n. absurd (omega arith)) (sized-more (b - 48) (digit-low b i) u k) (onward (counting f h l (v * 10 + (b - 48)) (d + 1)) t on-f a) in
      record { piece = b ∷ k.piece; rest = k.rest; is = more v d b k.piece z i u k.is; splits = ap (λ x. b ∷ x) k.splits; goes_on = k.goes_on })
      (λ _ a. no_way _ a)
      (subst (λ x. Arrives x t r) (digit-step v d b k) a))
      (λ _. cond_both (eqb b c) (Some (Store p g)) None (λ x. Arrives (turned_by b (counting f h l v d) x) t r → S)
      (λ i a. cond_both (eqb d 0) None (Some (counted p g h l v)) (λ x. Arrives x t r → S)
      (λ _ a. no_way _ a)
      (λ n a.
      let some : d ≡ 0 → ⊥ = eqb-false d 0 n in
      record {
        piece = [];
        rest = t;
        is = record { in_digits = refl; some_digits = omega arith; few_digits = omega arith; zero_read = λ _ _. refl; zero_alone = λ m. absurd (some m) };
        splits = ap (λ x. x ∷ t) (eqb-true b c i);
        goes_on = onward (counted p g h l v) t on-g a;
      })
      (subst (λ x. Arrives x t r) (store-step v d b) a))
      (λ _ a. no_way _ a))
      (subst (λ x. Arrives (turned_by b (counting f h l v d) x) t r) (law b) e)

  pub number : Stage (counting f h l 0 0) (λ x. Numeral x (worth 0 x)) (c ∷ []) (λ x. counted p g h l (worth 0 x))
  number = record {
    forth = λ x t k. digits_in x t 0 0 none (record {
      in_digits = k.in_digits;
      some_digits = omega (arith, k.some_digits);
      few_digits = omega (arith, k.few_digits);
      zero_read = λ e. absurd (omega arith);
      zero_alone = λ _. k.zero_alone;
    });
    back = λ t e. let k = digits_out t 0 0 (omega arith) (λ z. z) none e in record {
      piece = k.piece;
      rest = k.rest;
      is = record {
        in_digits = k.is.in_digits;
        some_digits = omega (arith, k.is.some_digits);
        few_digits = omega (arith, k.is.few_digits);
        zero_alone = k.is.zero_alone refl;
        writes = refl;
      };
      splits = k.splits;
      goes_on = k.goes_on;
    };
  }

-- where the reader stands in a line, from its source on
abbrev pub naming : ℕ → Field → List ℕ → State
naming a f y = record { field = f; number = None; head = no_head; line = record { from = a; label = y; to = 0 } }

-- a name and the quote that ends it
module _ (a : ℕ) where
  letters_in : (x t y : List ℕ) {r : Place} → name_bytes x ≡ true → length y + length x ≤ 16 → Reads (naming a Comma (y ++ x)) t r → Reads (naming a Label y) (x ++ 34 ∷ t) r
  letters_in [] t y {r} k few e = subst (λ x. Reads (naming a Comma x) t r) (append-nil y) e
  letters_in (b ∷ x) t y {r} k few e =
      let p = and_parts (name_byte b) (name_bytes x) k in
      let room : ltb (length y) 16 ≡ true = lt-ltb _ _ (omega arith) in
      steps (naming a Label y) (naming a Label (y ++ b ∷ [])) b (x ++ 34 ∷ t)
      (ap (λ x. turned_by b (naming a Label y) x) (cond-true _ _ _ p.0) ∙ cond-true _ _ _ room) refl
      (letters_in x t (y ++ b ∷ []) p.1 (omega (arith, length_push y b)) (subst (λ x. Reads (naming a Comma x) t r) (sym (append_assoc y (b ∷ []) x)) e))

  letters_out : (t y : List ℕ) {r : Place} → length y ≤ 16 → Reads (naming a Label y) t r →
      Split (λ x. (name_bytes x ≡ true) × (length y + length x ≤ 16)) (34 ∷ []) (λ x. naming a Comma (y ++ x)) t r
  letters_out [] y few e = no_way _ e
  letters_out (b ∷ t) y {r} few e =
      let S : Type 0 = Split (λ x. (name_bytes x ≡ true) × (length y + length x ≤ 16)) (34 ∷ []) (λ x. naming a Comma (y ++ x)) (b ∷ t) r in
      cond_both (name_byte b) (Some Letter) (only 34 b (Next Comma)) (λ x. Arrives (turned_by b (naming a Label y) x) t r → S)
      (λ i. cond_both (ltb (length y) 16) (Some (naming a Label (y ++ b ∷ []))) None (λ x. Arrives x t r → S)
      (λ u w.
      let room : length y < 16 = ltb-true _ _ u in
      let k = letters_out t (y ++ b ∷ []) (omega (arith, length_push y b)) w in
      record {
        piece = b ∷ k.piece;
        rest = k.rest;
        is = (and_from _ _ i k.is.0, omega (arith, k.is.1, length_push y b));
        splits = ap (λ x. b ∷ x) k.splits;
        goes_on = subst (λ x. Reads (naming a Comma x) k.rest r) (append_assoc y (b ∷ []) k.piece) k.goes_on;
      })
      (λ _ w. no_way _ w))
      (λ _. cond_both (eqb b 34) (Some (Next Comma)) None (λ x. Arrives (turned_by b (naming a Label y) x) t r → S)
      (λ i w. record {
        piece = [];
        rest = t;
        is = (refl, omega arith);
        splits = ap (λ x. x ∷ t) (eqb-true b 34 i);
        goes_on = subst (λ x. Reads (naming a Comma x) t r) (sym (append-nil y)) w;
      })
      (λ _ w. no_way _ w))
      e

  name_in : (x t : List ℕ) {r : Place} → is_name x ≡ true → Reads (naming a Comma x) t r → Reads (naming a Initial []) (x ++ 34 ∷ t) r
  name_in [] t k e = absurd (both_ways false refl k)
  name_in (b ∷ x) t k e =
      let p = and_parts (leb (length (b ∷ x)) 16) (letter b && name_bytes (b ∷ x)) k in
      let q = and_parts (letter b) (name_bytes (b ∷ x)) p.1 in
      let few : suc (length x) ≤ 16 = leb-true _ _ p.0 in
      steps (naming a Initial []) (naming a Label (b ∷ [])) b (x ++ 34 ∷ t) (ap (λ x. turned_by b (naming a Initial []) x) (cond-true _ _ _ q.0)) refl
      (letters_in x t (b ∷ []) (and_parts (name_byte b) (name_bytes x) q.1).1 (omega arith) e)

  name_out : (t : List ℕ) {r : Place} → Reads (naming a Initial []) t r → Split (λ x. is_name x ≡ true) (34 ∷ []) (naming a Comma) t r
  name_out [] e = no_way _ e
  name_out (b ∷ t) {r} e =
      cond_both (letter b) (Some Letter) None (λ x. Arrives (turned_by b (naming a Initial []) x) t r → Split (λ x. is_name x ≡ true) (34 ∷ []) (naming a Comma) (b ∷ t) r)
      (λ i w.
      let k = letters_out t (b ∷ []) (omega arith) w in
      let few : length (b ∷ k.piece) ≤ 16 = omega (arith, k.is.1) in
      record {
        piece = b ∷ k.piece;
        rest = k.rest;
        is = and_from _ _ (le-leb _ _ few) (and_from _ _ i (and_from _ _ (or_left _ _ i) k.is.0));
        splits = ap (λ x. b ∷ x) k.splits;
        goes_on = k.goes_on;
      })
      (λ _ w. no_way _ w)
      e

  pub name : Stage (naming a Initial []) (λ x. is_name x ≡ true) (34 ∷ []) (naming a Comma)
  name = record { forth = name_in; back = name_out }
