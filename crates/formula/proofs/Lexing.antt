-- The loop over the tokens of a text: those found so far, and those that the rest of the text has.
use Rattle.std.proofs.Common.{◌≡◌, ℕ, suc, ◌+◌, ◌-◌, ◌≤◌, List, [], ◌∷◌, ◌++◌, map, length, Some, None, Option, sym, refl, ap, ◌∙◌, subst, arith, length-append}
use Rattle.std.specs.Option.{option_map}
use Rattle.std.proofs.lemmas.Iterator.Adapters.{option_map_id}
use Rattle.std.proofs.lemmas.List.{append_assoc, map_push}
use Rattle.formula.specs.declared.token.Token.{Token}
use Rattle.formula.specs.Tokens.{Tok, tok, found, front, onward, tokens_in, tokens_of}

abbrev pub after : List Token → List Tok → List Tok
after xs ts = map tok xs ++ ts

abbrev pub Lexed : List ℕ → List Token → List ℕ → Type 0
Lexed text xs rest = tokens_of text ≡ option_map (after xs) (tokens_in (length text + 1 - length xs) rest)

begin : (text : List ℕ) → Lexed text [] text
begin text =
    let e : suc (length text) ≡ length text + 1 - 0 = omega arith in
    ap (λ n. tokens_in n text) e ∙ sym (option_map_id (tokens_in (length text + 1 - 0) text))

pub begins : (text : List ℕ) (xs : List Token) (rest : List ℕ) → xs ≡ [] → rest ≡ text → Lexed text xs rest
begins text xs rest e f = subst (λ ys. Lexed text ys rest) (sym e) (subst (Lexed text []) (sym f) (begin text))

-- one token more
module _ (text : List ℕ) (xs : List Token) (rest : List ℕ) (few : length xs ≤ length text) (lexed : Lexed text xs rest) (t : Token) (more : List ℕ) (e : front rest ≡ found (tok t) more) where
  put : Lexed text (xs ++ t ∷ []) more
  put =
      let n : length text + 1 - length xs ≡ suc (length text - length xs) = omega arith in
      let m : length text - length xs ≡ length text + 1 - length (xs ++ t ∷ []) = omega (arith, length-append xs (t ∷ [])) in
      lexed ∙ ap (λ k. option_map (after xs) (tokens_in k rest)) n
      ∙ ap (λ x. option_map (after xs) (onward x (tokens_in (length text - length xs)))) e
      ∙ ap (λ k. option_map (after xs) (option_map (λ ts. tok t ∷ ts) (tokens_in k more))) m
      ∙ push (tokens_in (length text + 1 - length (xs ++ t ∷ [])) more)
    where
      pushed : (ts : List Tok) → after xs (tok t ∷ ts) ≡ after (xs ++ t ∷ []) ts
      pushed ts = sym (append_assoc (map tok xs) (tok t ∷ []) ts) ∙ ap (λ ys. ys ++ ts) (sym (map_push tok xs t))

      push : (o : Option (List Tok)) → option_map (after xs) (option_map (λ ts. tok t ∷ ts) o) ≡ option_map (after (xs ++ t ∷ [])) o
      push None = refl
      push (Some ts) = ap Some (pushed ts)

  pub at_token : (ys : List Token) → ys ≡ xs ++ t ∷ [] → Lexed text ys more
  at_token ys f = subst (λ zs. Lexed text zs more) (sym f) put
