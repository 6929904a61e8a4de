-- The nodes of one more formula in a table of several.
use Rattle.std.proofs.Common.{◌≡◌, ℕ, zero, suc, ◌+◌, ◌-◌, ◌<◌, ◌≤◌, ◌⊎◌, List, [], ◌∷◌, ◌++◌, length, get_or, sym, refl, ap, ◌∙◌, subst, inl, inr, arith}
use Rattle.std.proofs.lemmas.List.{length-append, length_push, get_or_push, get_or_append_left}
use Rattle.std.proofs.lemmas.Bool.{cases_lt}
use Rattle.formula.specs.Shapes.{Shape, true_node, ChildrenIn}
use Rattle.formula.specs.Tables.{root_of, first_of, Ascending, Ends, Apart, Extended}

-- where the earlier formulas stand stays
pub root_kept : (rs : List ℕ) (r f : ℕ) → f < length rs → root_of (rs ++ r ∷ []) f ≡ root_of rs f
root_kept rs r f h = get_or_append_left rs (r ∷ []) 0 f h

pub first_kept : (rs : List ℕ) (r f : ℕ) → f ≤ length rs → first_of (rs ++ r ∷ []) f ≡ first_of rs f
first_kept rs r zero h = refl
first_kept rs r (suc f) h = ap (λ k. k + 1) (root_kept rs r f (omega arith))

pub root_new : (rs : List ℕ) (r : ℕ) → root_of (rs ++ r ∷ []) (length rs) ≡ r
root_new rs r = get_or_push rs r 0 (length rs) refl

-- the nodes end at the last root, so the next formula would begin there
pub next_first : (rs : List ℕ) (r : ℕ) → first_of (rs ++ r ∷ []) (length (rs ++ r ∷ [])) ≡ r + 1
next_first rs r =
    let e : length (rs ++ r ∷ []) ≡ suc (length rs) = omega (arith, length_push rs r) in
    ap (first_of (rs ++ r ∷ [])) e ∙ ap (λ k. k + 1) (root_new rs r)

-- no root is past the nodes
pub within : (rs : List ℕ) (xs : List Shape) → Ascending rs → Ends rs xs → (f : ℕ) → f < length rs → root_of rs f < length xs
within rs xs up ends f h = reach (length rs) h (omega arith)
  where
    -- roots before the first node of a later formula
    later : (n : ℕ) → f < n → n ≤ length rs → root_of rs f < first_of rs n
    later zero l m = absurd (omega arith)
    later (suc n) l m = at (cases_lt f n) (later n)
      where
        at : (f < n) ⊎ (n ≤ f) → (f < n → n ≤ length rs → root_of rs f < first_of rs n) → root_of rs f < first_of rs (suc n)
        at (inl k) go = omega (arith, go k (omega arith), up n (omega arith))
        at (inr k) go = let e : n ≡ f = omega arith in omega (arith, ap (root_of rs) e)

    reach : (n : ℕ) → f < n → n ≤ length rs → root_of rs f < length xs
    reach n l m = omega (arith, later (length rs) h (omega arith), ends)

-- a formula more
module _ (rs : List ℕ) (xs ys : List Shape) (up : Ascending rs) (ends : Ends rs xs) (apart : Apart rs xs) (more : Extended xs ys) where
  abbrev r : ℕ
  r = length ys - 1

  abbrev rs' : List ℕ
  rs' = rs ++ r ∷ []

  long : length ys ≡ length xs + length more.new
  long = ap length more.grown ∙ length-append xs more.new

  kept : (k : ℕ) → k < length xs → get_or ys k true_node ≡ get_or xs k true_node
  kept k h = ap (λ (zs : List Shape). get_or zs k true_node) more.grown ∙ get_or_append_left xs more.new true_node k h

  -- an earlier formula, or the new one
  earlier-or_new : (f : ℕ) → f < length rs' → (f < length rs) ⊎ (f ≡ length rs)
  earlier-or_new f h = at (cases_lt f (length rs))
    where
      at : (f < length rs) ⊎ (length rs ≤ f) → (f < length rs) ⊎ (f ≡ length rs)
      at (inl l) = inl l
      at (inr l) = inr (omega (arith, length_push rs r))

  begins : first_of rs' (length rs) ≡ length xs
  begins = first_kept rs r (length rs) (omega arith) ∙ ends

  pub ascending : Ascending rs'
  ascending f h = at (earlier-or_new f h)
    where
      at : (f < length rs) ⊎ (f ≡ length rs) → first_of rs' f ≤ root_of rs' f
      at (inl l) = omega (arith, up f l, first_kept rs r f (omega arith), root_kept rs r f l)
      at (inr e) = subst (λ (k : ℕ). first_of rs' k ≤ root_of rs' k) (sym e) (omega (arith, begins, root_new rs r, long, more.some))

  pub ends_there : Ends rs' ys
  ends_there = next_first rs r ∙ omega (arith, long, more.some)

  pub all_apart : Apart rs' ys
  all_apart f k h g l = at (earlier-or_new f h)
    where
      at : (f < length rs) ⊎ (f ≡ length rs) → ChildrenIn (first_of rs' f) k (get_or ys k true_node)
      at (inl m) =
          let n : k ≤ root_of rs f = omega (arith, root_kept rs r f m) in
          subst (λ (b : ℕ). ChildrenIn b k (get_or ys k true_node)) (sym (first_kept rs r f (omega arith)))
          (subst (ChildrenIn (first_of rs f) k) (sym (kept k (omega (arith, within rs xs up ends f m))))
          (apart f k m (omega (arith, first_kept rs r f (omega arith))) n))
      at (inr e) =
          let b : first_of rs' f ≡ length xs = ap (first_of rs') e ∙ begins in
          let n : root_of rs' f ≡ r = ap (root_of rs') e ∙ root_new rs r in
          subst (λ (b : ℕ). ChildrenIn b k (get_or ys k true_node)) (sym b)
          (more.own k (omega arith) (omega (arith, long, more.some)))
