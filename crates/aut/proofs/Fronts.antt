-- A model at the front of an input: how long it is, and that it is so in one way only.
use Rattle.std.proofs.Common.{◌≡◌, ℕ, zero, suc, ◌+◌, ◌-◌, ◌<◌, ◌≤◌, eqb, List, [], ◌∷◌, ◌++◌, length, get_or, drop, Some, None, Option, sym, refl, ap, ◌∙◌, arith}
use Rattle.std.specs.Option.{option_map}
use Rattle.std.proofs.lemmas.List.{length-append, length-drop}
use Rattle.std.proofs.lemmas.Option.{none-some, same_Some}
use Rattle.std.proofs.lemmas.Bool.{cond-true, cond-false, eq-eqb, ne_eqb}
use Rattle.aut.specs.declared.header.Header.{Header}
use Rattle.aut.specs.Scanning.{first_line}
use Rattle.aut.specs.Front.{lines_length, FirstLine, ModelFront}
use Rattle.aut.proofs.Readings.{line-one_in, line_one_out}

-- one line fewer is left
one_left : (m i : ℕ) → i < m → m - i ≡ suc (m - (i + 1))
one_left m i h = omega arith

-- the first line: the bytes up to the first 10
pub line-ends : (k i : ℕ) (t : List ℕ) → i < length t → get_or t i 0 ≡ 10 → ((j : ℕ) → j < i → get_or t j 0 ≡ 10 → ⊥) →
    lines_length (suc k) t ≡ option_map (λ n. n + (i + 1)) (lines_length k (drop (i + 1) t))
line-ends k zero [] h e before = absurd (omega arith)
line-ends k (suc i) [] h e before = absurd (omega arith)
line-ends k zero (b ∷ t) h e before = ap (option_map (λ n. n + 1)) (cond-true _ _ _ (eq-eqb b 10 e)) ∙ refl
line-ends k (suc i) (b ∷ t) h e before =
    ap (option_map (λ n. n + 1)) (cond-false (eqb b 10) (lines_length k t) (lines_length (suc k) t) (ne_eqb b 10 (before 0 (omega arith))))
    ∙ ap (option_map (λ n. n + 1)) (line-ends k i t (omega arith) e (λ j l. before (suc j) (omega arith)))
    ∙ one_more (lines_length k (drop (i + 1) t)) ∙ ap (λ m. option_map (λ n. n + m) (lines_length k (drop m (b ∷ t)))) longer
  where
    longer : suc (i + 1) ≡ suc i + 1
    longer = omega arith

    one_more : (o : Option ℕ) → option_map (λ n. n + 1) (option_map (λ n. n + (i + 1)) o) ≡ option_map (λ n. n + suc (i + 1)) o
    one_more None = refl
    one_more (Some n) = let e : n + (i + 1) + 1 ≡ n + suc (i + 1) = omega arith in ap Some e

pub no_line-ends : (k : ℕ) (t : List ℕ) → ((j : ℕ) → j < length t → get_or t j 0 ≡ 10 → ⊥) → lines_length (suc k) t ≡ None
no_line-ends k [] none = refl
no_line-ends k (b ∷ t) none =
    ap (option_map (λ n. n + 1)) (cond-false (eqb b 10) (lines_length k t) (lines_length (suc k) t) (ne_eqb b 10 (none 0 (omega arith))))
    ∙ ap (option_map (λ n. n + 1)) (no_line-ends k t (λ j l. none (suc j) (omega arith)))

pub first-line : (i : ℕ) (t rest : List ℕ) → i < length t → get_or t i 0 ≡ 10 → ((j : ℕ) → j < i → get_or t j 0 ≡ 10 → ⊥) → rest ≡ drop (i + 1) t → FirstLine t rest
first-line i t rest h e before r =
    let long : length rest ≡ length t - (i + 1) = ap length r ∙ length-drop (i + 1) t in
    let m : length t - length rest ≡ i + 1 = omega arith in
    record {
      shorter = omega arith;
      lines = λ k. line-ends k i t h e before ∙ ap (λ x. option_map (λ n. n + (i + 1)) (lines_length k x)) (sym r) ∙ ap (λ x. option_map (λ n. n + x) (lines_length k rest)) (sym m);
    }

-- a line more, counted from the beginning of the whole text
pub further : (whole : ℕ) (lines i : ℕ) (t rest : List ℕ) → i < lines → length t ≤ whole → FirstLine t rest →
    option_map (λ n. whole - length rest + n) (lines_length (lines - (i + 1)) rest) ≡ option_map (λ n. whole - length t + n) (lines_length (lines - i) t)
further whole lines i t rest h w f =
    sym (ap (λ k. option_map (λ n. whole - length t + n) (lines_length k t)) (one_left lines i h)
    ∙ ap (option_map (λ n. whole - length t + n)) (f.lines (lines - (i + 1))) ∙ joined (lines_length (lines - (i + 1)) rest))
  where
    joined : (o : Option ℕ) → option_map (λ n. whole - length t + n) (option_map (λ n. n + (length t - length rest)) o) ≡ option_map (λ n. whole - length rest + n) o
    joined None = refl
    joined (Some n) = let e : whole - length t + (n + (length t - length rest)) ≡ whole - length rest + n = omega (arith, f.shorter) in ap Some e

-- line one as the reader finds it is the only one
module _ (input : List ℕ) where
  found : (n : ℕ) (k : ModelFront input n) → first_line input ≡ Some (k.header, k.rest)
  found n k = ap first_line k.reads ∙ line-one_in k.first k.rest k.header k.first_is

  pub no_front : first_line input ≡ None → (n : ℕ) → ModelFront input n → ⊥
  no_front e n k = none-some _ (sym e ∙ found n k)

  module _ (h : Header) (body : List ℕ) (first : first_line input ≡ Some (h, body)) where
    -- how long line one is
    pub long : (first : List ℕ) → input ≡ first ++ body → length first ≡ length input - length body
    long x e = omega (arith, ap length e, length-append x body)

    pub front-is : (n : ℕ) → ModelFront input n → option_map (λ k. length input - length body + k) (lines_length h.transitions body) ≡ Some n
    front-is n k =
        let both = same_Some _ _ (sym first ∙ found n k) in
        let rest : body ≡ k.rest = ap (λ p. p.1) both in
        let head : h ≡ k.header = ap (λ p. p.0) both in
        ap (λ x. option_map (λ j. x + j) (lines_length h.transitions body)) (sym (long k.first (k.reads ∙ ap (λ x. k.first ++ x) (sym rest))))
        ∙ ap (λ x. option_map (λ j. length k.first + j) (lines_length x.transitions body)) head
        ∙ ap (λ x. option_map (λ j. length k.first + j) (lines_length k.header.transitions x)) rest
        ∙ k.lines

    pub front_made : (n : ℕ) → option_map (λ k. length input - length body + k) (lines_length h.transitions body) ≡ Some n → ModelFront input n
    front_made n e =
        let q = line_one_out input h body first in
        record {
          header = h;
          first = q.0;
          rest = body;
          first_is = q.1;
          reads = q.2;
          lines = ap (λ x. option_map (λ j. x + j) (lines_length h.transitions body)) (long q.0 q.2) ∙ e;
        }
