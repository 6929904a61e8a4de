-- Bytes put over the beginning of a text, part by part, and names as lines.
use borrow.Rule.Slice.PartMut.{mid_of, post_of, put_mid}
use Rattle.std.proofs.Common.{◌≡◌, ℕ, ◌+◌, ◌-◌, ◌<◌, ◌≤◌, List, [], ◌∷◌, ◌++◌, length, take, drop, get_or, min, sym, ap, ◌∙◌, subst, ⊎_elim, arith}
use Rattle.std.proofs.Math.Seq.{take-append_seam, drop-append_seam, take-append-add}
use Rattle.std.proofs.lemmas.Bool.{cases_lt}
use Rattle.std.proofs.lemmas.Grind.{flat_map-append}
use Rattle.std.proofs.lemmas.List.{append_assoc, length-append, length-drop, take_all, drop_all, take_rest, length-take, take-append-le, drop-drop, take_more, append-nil}
use Rattle.std.proofs.lemmas.List.Concat.{flat_map-cons}
use Rattle.bench_api.specs.Reading.{lines, put_over}

-- the text after some bytes, and the place after them
pub record PutSoFar (bytes before after : List ℕ) (at : ℕ) : Type 0 where
  pub text_is : after ≡ put_over bytes before
  pub at_is : at ≡ min (length bytes) (length before)

pub length-put_over : (xs t : List ℕ) → length (put_over xs t) ≡ length t
length-put_over xs t =
    length-append (take (length t) xs) (drop (length xs) t)
    ∙ omega (arith, length-take (length t) xs, length-drop (length xs) t)

pub nothing_put : (t : List ℕ) → PutSoFar [] t t 0
nothing_put t = record { text_is = ap (λ x. x ++ t) (sym (take_nothing (length t))); at_is = omega arith }
  where
    take_nothing : (n : ℕ) → ◌≡◌ {A = List ℕ} (take n []) []
    take_nothing n = take_all n [] (omega arith)

module _ (xs ys t : List ℕ) where
  -- there is room for the first bytes
  fits : length xs ≤ length t → take (length xs) (put_over xs t) ++ put_over ys (drop (length xs) (put_over xs t)) ≡ put_over (xs ++ ys) t
  fits l =
      let d : List ℕ = drop (length xs) t in
      let whole : put_over xs t ≡ xs ++ d = ap (λ x. x ++ d) (take_all (length t) xs l) in
      let long : length t ≡ length xs + length d = omega (arith, length-drop (length xs) t) in
      ap (λ x. take (length xs) x ++ put_over ys (drop (length xs) x)) whole
      ∙ ap (λ x. x ++ put_over ys (drop (length xs) (xs ++ d))) (take-append_seam xs d)
      ∙ ap (λ x. xs ++ put_over ys x) (drop-append_seam xs d)
      ∙ sym (append_assoc xs (take (length d) ys) (drop (length ys) d))
      ∙ ap (λ x. x ++ drop (length ys) d) (sym (take-append-add xs ys (length d)))
      ∙ ap (λ n. take n (xs ++ ys) ++ drop (length ys) d) (sym long)
      ∙ ap (λ x. take (length t) (xs ++ ys) ++ x) (drop-drop (length ys) (length xs) t)
      ∙ ap (λ n. take (length t) (xs ++ ys) ++ drop n t) (sym (length-append xs ys))

  -- there is not
  full : length t < length xs → take (length t) (put_over xs t) ++ put_over ys (drop (length t) (put_over xs t)) ≡ put_over (xs ++ ys) t
  full l =
      let none : put_over ys (drop (length t) (put_over xs t)) ≡ [] =
      ap (put_over ys) (drop_all (length t) (put_over xs t) (omega (arith, length-put_over xs t)))
      ∙ ap (λ x. take 0 ys ++ x) (drop_all (length ys) [] (omega arith)) in
      let all : take (length t) (put_over xs t) ≡ put_over xs t = take_all _ _ (omega (arith, length-put_over xs t)) in
      ap (λ x. take (length t) (put_over xs t) ++ x) none ∙ append-nil _ ∙ all
      ∙ ap (λ x. take (length t) xs ++ x) (drop_all (length xs) t (omega arith) ∙ sym (drop_all (length (xs ++ ys)) t (omega (arith, length-append xs ys))))
      ∙ ap (λ x. x ++ drop (length (xs ++ ys)) t) (sym (take-append-le (length t) xs ys (omega arith)))

  -- bytes put after others
  pub put_more : (at : ℕ) (now : List ℕ) → PutSoFar xs t now at →
      PutSoFar (xs ++ ys) t (take at now ++ put_over ys (drop at now)) (at + min (length ys) (length (drop at now)))
  put_more at now p =
      let long : length now ≡ length t = ap length p.text_is ∙ length-put_over xs t in
      record {
        text_is = ap (λ x. take at x ++ put_over ys (drop at x)) p.text_is ∙ ⊎_elim spilled fitting (cases_lt (length t) (length xs));
        at_is = omega (arith, p.at_is, long, length-drop at now, length-append xs ys);
      }
    where
      spilled : length t < length xs → take at (put_over xs t) ++ put_over ys (drop at (put_over xs t)) ≡ put_over (xs ++ ys) t
      spilled l = let e : at ≡ length t = omega (arith, p.at_is) in ap (λ n. take n (put_over xs t) ++ put_over ys (drop n (put_over xs t))) e ∙ full l

      fitting : length xs ≤ length t → take at (put_over xs t) ++ put_over ys (drop at (put_over xs t)) ≡ put_over (xs ++ ys) t
      fitting l = let e : at ≡ length xs = omega (arith, p.at_is) in ap (λ n. take n (put_over xs t) ++ put_over ys (drop n (put_over xs t))) e ∙ fits l

-- the same by a call that is handed the rest of the text
pub put_rest : (xs ys t : List ℕ) (at : ℕ) (now new : List ℕ) (count : ℕ) → PutSoFar xs t now at →
    count ≡ min (length ys) (length (mid_of at (length now - at) now)) → new ≡ put_over ys (mid_of at (length now - at) now) →
    PutSoFar (xs ++ ys) t (put_mid at (length now - at) now new) (at + count)
put_rest xs ys t at now new count p counted written =
    let rest : mid_of at (length now - at) now ≡ drop at now = take_rest now at in
    let past : post_of at (length now - at) now ≡ [] = drop_all (length now - at) (drop at now) (omega (arith, length-drop at now)) in
    let text : put_mid at (length now - at) now new ≡ take at now ++ put_over ys (drop at now) =
    ap (λ x. take at now ++ (new ++ x)) past ∙ ap (λ x. take at now ++ x) (append-nil new ∙ written ∙ ap (put_over ys) rest) in
    let place : at + count ≡ at + min (length ys) (length (drop at now)) = ap (λ n. at + n) (counted ∙ ap (λ x. min (length ys) (length x)) rest) in
    let q = put_more xs ys t at now p in
    record { text_is = text ∙ q.text_is; at_is = place ∙ q.at_is }

pub put_same : {xs ys t now : List ℕ} {at : ℕ} → PutSoFar xs t now at → xs ≡ ys → PutSoFar ys t now at
put_same {t = t} {now = now} {at = at} p e = subst (λ x. PutSoFar x t now at) e p

-- one name more
pub one_more_line : (ns : List (List ℕ)) (i : ℕ) (n : List ℕ) → i < length ns → n ≡ get_or ns i n → (bytes : List ℕ) → bytes ≡ n →
    (lines (take i ns) ++ bytes) ++ 10 ∷ [] ≡ lines (take (i + 1) ns)
one_more_line ns i n l here bytes e =
    ap (λ x. (lines (take i ns) ++ x) ++ 10 ∷ []) (e ∙ here)
    ∙ append_assoc (lines (take i ns)) (get_or ns i n) (10 ∷ [])
    ∙ ap (λ x. lines (take i ns) ++ x) (sym (append-nil _) ∙ sym (flat_map-cons (λ name. name ++ 10 ∷ []) (get_or ns i n) []))
    ∙ sym (flat_map-append (λ name. name ++ 10 ∷ []) (take i ns) (get_or ns i n ∷ []))
    ∙ ap lines (sym (take_more ns i n l))
