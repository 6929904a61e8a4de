-- The lexer's function finds the tokens that a text has by longest runs, and no others.
use Rattle.std.proofs.Common.{◌≡◌, ℕ, zero, suc, ◌+◌, ◌<◌, ◌≤◌, Bool, true, false, cond, not, ◌&&◌, eqb, leb, ◌⊎◌, List, [], ◌∷◌, ◌++◌, length, drop, Some, None, Option, sym, refl, ap, ◌∙◌, subst, inl, inr, arith, take-append-drop}
use Rattle.std.specs.List.{prefix_len, take_while, list_all}
use Rattle.std.specs.Option.{option_map}
use Rattle.std.proofs.lemmas.List.{length-append}
use Rattle.std.proofs.lemmas.List.Sums.{take_while-cons}
use Rattle.std.proofs.lemmas.Option.{none-some, same_Some}
use Rattle.std.proofs.lemmas.Bool.{both_ways, cases_Bool, not-true, and_parts, and_from, eqb-true, ne_eqb, leb-true, lt-leb, cond-true, cond-false}
use Rattle.base.specs.Names.{letter, name_byte, name_bytes, is_name}
use Rattle.formula.specs.declared.symbol.Symbol.{Symbol}
use Rattle.formula.specs.declared.symbol.Symbol.TheVariants.{Sign as signed}
use Rattle.formula.specs.declared.symbol.Sign.{Sign}
use Rattle.formula.specs.Tokens.{Tok, symbol, name, sign, word, capital, past, Front, broken, found, found_symbol, word_at, name_at, token_at, front, onward, tokens_in}
use Rattle.formula.specs.Lexes.{stops, Lexes, done, space, a_sign, a_word, a_name, LongestRuns}

-- a run and what follows it
split : (p : ℕ → Bool) (bs : List ℕ) → take_while p bs ++ past p bs ≡ bs
split p bs = take-append-drop (prefix_len p bs) bs

past-cons : (p : ℕ → Bool) (b : ℕ) (bs : List ℕ) → past p (b ∷ bs) ≡ cond (p b) (past p bs) (b ∷ bs)
past-cons p b bs =
    let n : 1 + prefix_len p bs ≡ suc (prefix_len p bs) = omega arith in
    elim (p b) as (λ x. drop (cond x (1 + prefix_len p bs) 0) (b ∷ bs) ≡ cond x (past p bs) (b ∷ bs)) [ true ↦ ap (λ k. drop k (b ∷ bs)) n | false ↦ refl ]

run_passes : (p : ℕ → Bool) (bs : List ℕ) → list_all p (take_while p bs) ≡ true
run_passes p [] = refl
run_passes p (b ∷ bs) = go (cases_Bool (p b)) (run_passes p bs)
  where
    go : (p b ≡ true) ⊎ (p b ≡ false) → list_all p (take_while p bs) ≡ true → list_all p (take_while p (b ∷ bs)) ≡ true
    go (inl e) h = ap (list_all p) (take_while-cons p b bs ∙ cond-true (p b) (b ∷ take_while p bs) [] e) ∙ and_from (p b) (list_all p (take_while p bs)) e h
    go (inr e) h = ap (list_all p) (take_while-cons p b bs ∙ cond-false (p b) (b ∷ take_while p bs) [] e)

past-stops : (p : ℕ → Bool) (bs : List ℕ) → stops p (past p bs) ≡ true
past-stops p [] = refl
past-stops p (b ∷ bs) = go (cases_Bool (p b)) (past-stops p bs)
  where
    go : (p b ≡ true) ⊎ (p b ≡ false) → stops p (past p bs) ≡ true → stops p (past p (b ∷ bs)) ≡ true
    go (inl e) h = ap (stops p) (past-cons p b bs ∙ cond-true (p b) (past p bs) (b ∷ bs) e) ∙ h
    go (inr e) h = ap (stops p) (past-cons p b bs ∙ cond-false (p b) (past p bs) (b ∷ bs) e) ∙ ap not e

-- a longest run is found whole
run_of : (p : ℕ → Bool) (w rest : List ℕ) → list_all p w ≡ true → stops p rest ≡ true → take_while p (w ++ rest) ≡ w
run_of p [] [] h s = refl
run_of p [] (b ∷ bs) h s = take_while-cons p b bs ∙ cond-false (p b) (b ∷ take_while p bs) [] (not-true (p b) s)
run_of p (b ∷ w) rest h s =
    let k = and_parts (p b) (list_all p w) h in
    take_while-cons p b (w ++ rest) ∙ cond-true (p b) (b ∷ take_while p (w ++ rest)) [] k.0 ∙ ap (λ (x : List ℕ). b ∷ x) (run_of p w rest k.1 s)

past_of : (p : ℕ → Bool) (w rest : List ℕ) → list_all p w ≡ true → stops p rest ≡ true → past p (w ++ rest) ≡ rest
past_of p [] [] h s = refl
past_of p [] (b ∷ bs) h s = past-cons p b bs ∙ cond-false (p b) (past p bs) (b ∷ bs) (not-true (p b) s)
past_of p (b ∷ w) rest h s =
    let k = and_parts (p b) (list_all p w) h in
    past-cons p b (w ++ rest) ∙ cond-true (p b) (past p (w ++ rest)) (b ∷ (w ++ rest)) k.0 ∙ past_of p w rest k.1 s

-- Which bytes begin what.
module _ (b : ℕ) where
  no_sign : (b ≡ 40 → ⊥) → (b ≡ 41 → ⊥) → (b ≡ 91 → ⊥) → (b ≡ 93 → ⊥) → (b ≡ 123 → ⊥) → (b ≡ 125 → ⊥) → sign b ≡ None
  no_sign h40 h41 h91 h93 h123 h125 = rw (ne_eqb b 40 h40, ne_eqb b 41 h41, ne_eqb b 91 h91, ne_eqb b 93 h93, ne_eqb b 123 h123, ne_eqb b 125 h125) refl

  capital_range : capital b ≡ true → (65 ≤ b) × (b ≤ 90)
  capital_range h = let k = and_parts (leb 65 b) (leb b 90) h in (leb-true 65 b k.0, leb-true b 90 k.1)

  letter_range : letter b ≡ true → (97 ≤ b) × (b ≤ 122)
  letter_range h = let k = and_parts (leb 97 b) (leb b 122) h in (leb-true 97 b k.0, leb-true b 122 k.1)

  capital_no_space : capital b ≡ true → eqb b 32 ≡ false
  capital_no_space h = let r = capital_range h in ne_eqb b 32 (λ e. omega (arith, r.0))

  capital_no_sign : capital b ≡ true → sign b ≡ None
  capital_no_sign h =
      let r = capital_range h in let low = r.0 in let high = r.1 in
      no_sign (λ e. omega arith) (λ e. omega arith) (λ e. omega arith) (λ e. omega arith) (λ e. omega arith) (λ e. omega arith)

  letter_no_space : letter b ≡ true → eqb b 32 ≡ false
  letter_no_space h = let r = letter_range h in ne_eqb b 32 (λ e. omega (arith, r.0))

  letter_no_sign : letter b ≡ true → sign b ≡ None
  letter_no_sign h =
      let r = letter_range h in let low = r.0 in let high = r.1 in
      no_sign (λ e. omega arith) (λ e. omega arith) (λ e. omega arith) (λ e. omega arith) (λ e. omega arith) (λ e. omega arith)

  letter_no_capital : letter b ≡ true → capital b ≡ false
  letter_no_capital h = let r = letter_range h in ap (λ (x : Bool). leb 65 b && x) (lt-leb b 90 (omega (arith, r.0))) ∙ off (leb 65 b)
    where
      off : (x : Bool) → (x && false) ≡ false
      off true = refl
      off false = refl

-- What the function finds at the front is there.
mapped_some : {A : Type 0} {B : Type 0} (f : A → B) (o : Option A) (y : B) → option_map f o ≡ Some y → (x : A) × (o ≡ Some x) × (Some (f x) ≡ Some y)
mapped_some f None y e = absurd (none-some y e)
mapped_some f (Some x) y e = (x, refl, e)

module _ (n : ℕ) (more : (text : List ℕ) (ts : List Tok) → tokens_in n text ≡ Some ts → Lexes text ts) where
  next-found : (t : Tok) (rest text : List ℕ) (ts : List Tok) → ((us : List Tok) → Lexes rest us → Lexes text (t ∷ us))
      → onward (found t rest) (tokens_in n) ≡ Some ts → Lexes text ts
  next-found t rest text ts put e =
      let (us, k, z) = mapped_some (λ (us : List Tok). t ∷ us) (tokens_in n rest) ts e in
      subst (Lexes text) (same_Some (t ∷ us) ts z) (put us (more rest us k))

  module _ (bs : List ℕ) (ts : List Tok) where
    as_word : (o : Option Symbol) → word (take_while capital bs) ≡ o → onward (found_symbol o (past capital bs) broken) (tokens_in n) ≡ Some ts → Lexes bs ts
    as_word None k e = absurd (none-some ts e)
    as_word (Some m) k e =
        next-found (symbol m) (past capital bs) bs ts
        (λ us d. subst (λ (x : List ℕ). Lexes x (symbol m ∷ us)) (split capital bs)
        (a_word (take_while capital bs) (past capital bs) (run_passes capital bs) (past-stops capital bs) k d)) e

    as_name : (x : Bool) → is_name (take_while name_byte bs) ≡ x
        → onward (cond x (found (name (take_while name_byte bs)) (past name_byte bs)) broken) (tokens_in n) ≡ Some ts → Lexes bs ts
    as_name false k e = absurd (none-some ts e)
    as_name true k e =
        next-found (name (take_while name_byte bs)) (past name_byte bs) bs ts
        (λ us d. subst (λ (x : List ℕ). Lexes x (name (take_while name_byte bs) ∷ us)) (split name_byte bs)
        (a_name (take_while name_byte bs) (past name_byte bs) k (past-stops name_byte bs) d)) e

    by_case : (x : Bool) → onward (cond x (word_at bs) (name_at bs)) (tokens_in n) ≡ Some ts → Lexes bs ts
    by_case true e = as_word (word (take_while capital bs)) refl e
    by_case false e = as_name (is_name (take_while name_byte bs)) refl e

  as_sign : (b : ℕ) (bs : List ℕ) (ts : List Tok) (o : Option Sign) → sign b ≡ o
      → onward (found_symbol (option_map signed o) bs (cond (capital b) (word_at (b ∷ bs)) (name_at (b ∷ bs)))) (tokens_in n) ≡ Some ts → Lexes (b ∷ bs) ts
  as_sign b bs ts None k e = by_case (b ∷ bs) ts (capital b) e
  as_sign b bs ts (Some s) k e = next-found (symbol (signed s)) bs (b ∷ bs) ts (λ us d. a_sign k d) e

  at_front : (text : List ℕ) (ts : List Tok) → onward (front text) (tokens_in n) ≡ Some ts → Lexes text ts
  at_front [] ts e = subst (Lexes []) (same_Some [] ts e) done
  at_front (b ∷ bs) ts e = go (eqb b 32) refl e (at_front bs ts)
    where
      go : (x : Bool) → eqb b 32 ≡ x → onward (cond x (front bs) (token_at (b ∷ bs))) (tokens_in n) ≡ Some ts
          → (onward (front bs) (tokens_in n) ≡ Some ts → Lexes bs ts) → Lexes (b ∷ bs) ts
      go true k e rest = subst (λ (c : ℕ). Lexes (c ∷ bs) ts) (sym (eqb-true b 32 k)) (space (rest e))
      go false k e rest = as_sign b bs ts (sign b) refl e

sound : (n : ℕ) (text : List ℕ) (ts : List Tok) → tokens_in n text ≡ Some ts → Lexes text ts
sound zero text ts e = absurd (none-some ts e)
sound (suc n) text ts e = at_front n (sound n) text ts e

-- And what is there it finds.
not_space : (c : ℕ) (s : Sign) → sign c ≡ Some s → eqb c 32 ≡ false
not_space c s e = go (cases_Bool (eqb c 32))
  where
    go : (eqb c 32 ≡ true) ⊎ (eqb c 32 ≡ false) → eqb c 32 ≡ false
    go (inr k) = k
    go (inl k) = absurd (none-some s (sym (ap sign (eqb-true c 32 k)) ∙ e))

module _ (n : ℕ) (b : ℕ) (bs rest : List ℕ) (t : Tok) (ts : List Tok) where
  onward-found : front (b ∷ bs) ≡ found t rest → tokens_in n rest ≡ Some ts → tokens_in (suc n) (b ∷ bs) ≡ Some (t ∷ ts)
  onward-found f e = ap (λ (x : Front). onward x (tokens_in n)) f ∙ ap (option_map (λ (us : List Tok). t ∷ us)) e

abbrev found_sign : ℕ → List ℕ → Option Sign → Front
found_sign b bs o = found_symbol (option_map signed o) bs (cond (capital b) (word_at (b ∷ bs)) (name_at (b ∷ bs)))

complete : {text : List ℕ} {ts : List Tok} → Lexes text ts → (n : ℕ) → length text < n → tokens_in n text ≡ Some ts
complete done zero l = absurd (omega arith)
complete done (suc n) l = refl
complete (space d) zero l = absurd (omega arith)
complete (space {rest = rest} d) (suc n) l = complete d (suc n) (omega arith)
complete (a_sign e d) zero l = absurd (omega arith)
complete (a_sign {c = c} {s = s} {rest = rest} {ts = ts} e d) (suc n) l =
    onward-found n c rest rest (symbol (signed s)) ts
    (cond-false (eqb c 32) (front rest) (token_at (c ∷ rest)) (not_space c s e) ∙ ap (found_sign c rest) e)
    (complete d n (omega arith))
complete (a_word w rest h s k d) zero l = absurd (omega arith)
complete (a_word [] rest {m = m} h s k d) (suc n) l = absurd (none-some m k)
complete (a_word (b ∷ w) rest {m = m} {ts = ts} h s k d) (suc n) l =
    let c = and_parts (capital b) (list_all capital w) h in
    let whole : word (take_while capital (b ∷ (w ++ rest))) ≡ Some m = ap word (run_of capital (b ∷ w) rest h s) ∙ k in
    onward-found n b (w ++ rest) rest (symbol m) ts
    (cond-false (eqb b 32) (front (w ++ rest)) (token_at (b ∷ (w ++ rest))) (capital_no_space b c.0)
    ∙ ap (found_sign b (w ++ rest)) (capital_no_sign b c.0)
    ∙ cond-true (capital b) (word_at (b ∷ (w ++ rest))) (name_at (b ∷ (w ++ rest))) c.0
    ∙ ap (λ (o : Option Symbol). found_symbol o (past capital (b ∷ (w ++ rest))) broken) whole
    ∙ ap (λ (x : List ℕ). found (symbol m) x) (past_of capital (b ∷ w) rest h s))
    (complete d n (omega (arith, length-append w rest)))
complete (a_name w rest h s d) zero l = absurd (omega arith)
complete (a_name [] rest h s d) (suc n) l = absurd (both_ways _ refl h)
complete (a_name (b ∷ w) rest {ts = ts} h s d) (suc n) l =
    let k = and_parts (leb (length (b ∷ w)) 16) (letter b && name_bytes (b ∷ w)) h in
    let c = and_parts (letter b) (name_bytes (b ∷ w)) k.1 in
    let each : list_all name_byte (b ∷ w) ≡ true = c.1 in
    let is : take_while name_byte (b ∷ (w ++ rest)) ≡ b ∷ w = run_of name_byte (b ∷ w) rest each s in
    let whole : is_name (take_while name_byte (b ∷ (w ++ rest))) ≡ true = ap is_name is ∙ h in
    onward-found n b (w ++ rest) rest (name (b ∷ w)) ts
    (cond-false (eqb b 32) (front (w ++ rest)) (token_at (b ∷ (w ++ rest))) (letter_no_space b c.0)
    ∙ ap (found_sign b (w ++ rest)) (letter_no_sign b c.0)
    ∙ cond-false (capital b) (word_at (b ∷ (w ++ rest))) (name_at (b ∷ (w ++ rest))) (letter_no_capital b c.0)
    ∙ cond-true (is_name (take_while name_byte (b ∷ (w ++ rest)))) (found (name (take_while name_byte (b ∷ (w ++ rest)))) (past name_byte (b ∷ (w ++ rest)))) broken whole
    ∙ ap (λ (x : List ℕ). found (name x) (past name_byte (b ∷ (w ++ rest)))) is
    ∙ ap (λ (x : List ℕ). found (name (b ∷ w)) x) (past_of name_byte (b ∷ w) rest each s))
    (complete d n (omega (arith, length-append w rest)))

pub longest_runs : LongestRuns
longest_runs text ts = (sound (suc (length text)) text ts, λ d. complete d (suc (length text)) (omega arith))
