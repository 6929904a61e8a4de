-- What is cut from the front of a text.
use Rattle.std.proofs.Common.{◌≡◌, ℕ, suc, ◌+◌, ◌<◌, Bool, true, false, cond, eqb, List, [], ◌∷◌, length, take, drop, Some, None, Option, Ok, Err, Result, refl, ap, ◌∙◌, subst, arith, length-drop}
use Rattle.std.specs.List.{prefix_len}
use Rattle.std.specs.Option.{option_map}
use Rattle.base.specs.Names.{name_byte, is_name}
use Rattle.base.specs.declared.refusal.Refusal.{Refusal}
use Rattle.formula.specs.declared.symbol.Symbol.{Symbol}
use Rattle.formula.specs.declared.symbol.Symbol.TheVariants.{Sign as signed}
use Rattle.formula.specs.declared.token.Token.{Token}
use Rattle.formula.specs.Tokens.{Steps, capital, past, sign, word, Front, ended, broken, found, name, found_symbol, word_at, name_at, token_at, front}

-- what follows spaces
pub past_spaces : (bs : List ℕ) → front bs ≡ token_at (past (λ b. eqb b 32) bs)
past_spaces [] = refl
past_spaces (b ∷ bs) = go (eqb b 32) (past_spaces bs)
  where
    go : (x : Bool) → front bs ≡ token_at (past (λ b. eqb b 32) bs) →
        cond x (front bs) (token_at (b ∷ bs)) ≡ token_at (drop (cond x (1 + prefix_len (λ b. eqb b 32) bs) 0) (b ∷ bs))
    go true e = let n : suc (prefix_len (λ b. eqb b 32) bs) ≡ 1 + prefix_len (λ b. eqb b 32) bs = omega arith in e ∙ ap (λ k. token_at (drop k (b ∷ bs))) n
    go false e = refl

-- what is found is followed by less than the whole
abbrev pub Within : ℕ → Front → Type 0
Within n ended = Unit {0}
Within n broken = Unit {0}
Within n (found t rest) = length rest < n

symbol_within : (n : ℕ) (o : Option Symbol) (rest : List ℕ) (f : Front) → length rest < n → Within n f → Within n (found_symbol o rest f)
symbol_within n None rest f h k = k
symbol_within n (Some m) rest f h k = h

shorter : (b : ℕ) (bs : List ℕ) (n : ℕ) → length (drop (1 + n) (b ∷ bs)) < length (b ∷ bs)
shorter b bs n = omega (arith, length-drop (1 + n) (b ∷ bs))

word_within : (b : ℕ) (bs : List ℕ) → Within (length (b ∷ bs)) (word_at (b ∷ bs))
word_within b bs =
    let n = prefix_len capital bs in
    elim (capital b) as (λ x. let k = cond x (1 + prefix_len capital bs) 0 in Within (length (b ∷ bs)) (found_symbol (word (take k (b ∷ bs))) (drop k (b ∷ bs)) broken)) [
      | true ↦ symbol_within _ (word (take (1 + n) (b ∷ bs))) (drop (1 + n) (b ∷ bs)) broken (shorter b bs n) tt
      | false ↦ tt
    ]

name_within : (b : ℕ) (bs : List ℕ) → Within (length (b ∷ bs)) (name_at (b ∷ bs))
name_within b bs =
    let n = prefix_len name_byte bs in
    elim (name_byte b) as (λ x. let k = cond x (1 + prefix_len name_byte bs) 0 in let w = take k (b ∷ bs) in Within (length (b ∷ bs)) (cond (is_name w) (found (name w) (drop k (b ∷ bs))) broken)) [
      | true ↦ elim (is_name (take (1 + n) (b ∷ bs))) as (λ x. Within (length (b ∷ bs)) (cond x (found (name (take (1 + n) (b ∷ bs))) (drop (1 + n) (b ∷ bs))) broken)) [ true ↦ shorter b bs n | false ↦ tt ]
      | false ↦ tt
    ]

pub token_within : (bs : List ℕ) → Within (length bs) (token_at bs)
token_within [] = tt
token_within (b ∷ bs) =
    symbol_within (length (b ∷ bs)) (option_map signed (sign b)) bs _ (omega arith)
    (elim (capital b) as (λ x. Within (length (b ∷ bs)) (cond x (word_at (b ∷ bs)) (name_at (b ∷ bs)))) [ true ↦ word_within b bs | false ↦ name_within b bs ])

-- and so is what is left after a step that finds a token or what is none
pub steps_within : (bs : List ℕ) (r : Result Token Refusal) (rest : List ℕ) → 0 < length bs
    → Steps (token_at bs) (Some r) rest → length rest < length bs
steps_within bs (Ok t) rest h e = subst (Within (length bs)) e (token_within bs)
steps_within bs (Err k) rest h e = omega (arith, ap length e.2)
