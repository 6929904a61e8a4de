-- Nodes laid past others: they fit or they do not, the earlier ones decode as before, and the last decodes to the tree.
use Rattle.std.proofs.Common.{◌≡◌, ℕ, ◌+◌, ◌-◌, ◌<◌, ◌≤◌, ltb, ◌⊎◌, List, [], ◌∷◌, ◌++◌, length, get_or, Some, None, sym, refl, ap, ◌∙◌, subst, inl, inr, ⊎_elim, arith}
use Rattle.std.proofs.lemmas.List.{append_assoc, length-append, length_push, get_or_push, get_or_append_left}
use Rattle.std.proofs.lemmas.List.Elements.{All-nil, All-cons, All-same, All-weaker}
use Rattle.std.proofs.lemmas.List.Sums.{fold-append}
use Rattle.std.proofs.lemmas.Bool.{cases_lt, cond-true, cond-false, lt-ltb, le-ltb}
use Rattle.meaning.specs.Formula.{Formula, TRUE, NOT, AND, OR}
use Rattle.formula.specs.Formulas.{short, path, by_names, size}
use Rattle.formula.specs.Choosing.{set_of}
use Rattle.formula.specs.Laying.{push, top, lay}
use Rattle.formula.specs.Shapes.{Shape, true_node, false_node, not_node, and_node, or_node, short_node, path_node, children, ChildrenIn, build_over, grow, formula_at}
use Rattle.formula.specs.Tables.{Own}
use Rattle.formula.specs.Trees as tree
use Rattle.formula.specs.Trees.{Tree}
use Rattle.formula.specs.Vocabulary.{Vocabulary}

-- the formulas of nodes, in two goes
grow-append : (fs : List Formula) (xs ys : List Shape) → grow fs (xs ++ ys) ≡ grow (grow fs xs) ys
grow-append fs xs ys = fold-append (λ fs x. fs ++ build_over fs x ∷ []) fs xs ys

length-grow : (fs : List Formula) (xs : List Shape) → length (grow fs xs) ≡ length fs + length xs
length-grow fs [] = omega arith
length-grow fs (x ∷ xs) = omega (arith, length-grow (fs ++ build_over fs x ∷ []) xs, length_push fs (build_over fs x))

grow-keeps : (fs : List Formula) (xs : List Shape) (k : ℕ) → k < length fs → get_or (grow fs xs) k TRUE ≡ get_or fs k TRUE
grow-keeps fs [] k h = refl
grow-keeps fs (x ∷ xs) k h =
    grow-keeps (fs ++ build_over fs x ∷ []) xs k (omega (arith, length_push fs (build_over fs x))) ∙ get_or_append_left fs (build_over fs x ∷ []) TRUE k h

pub earlier : (xs ys : List Shape) (k : ℕ) → k < length xs → formula_at (xs ++ ys) k ≡ formula_at xs k
earlier xs ys k h = ap (λ fs. get_or fs k TRUE) (grow-append [] xs ys) ∙ grow-keeps (grow [] xs) ys k (omega (arith, length-grow [] xs))

-- the formula of the last node
abbrev root_of : List Shape → Formula
root_of xs = formula_at xs (length xs - 1)

pub last_node : (xs : List Shape) (x : Shape) → root_of (xs ++ x ∷ []) ≡ build_over (grow [] xs) x
last_node xs x =
    let e : length (xs ++ x ∷ []) - 1 ≡ length xs = omega (arith, length_push xs x) in
    ap (λ k. formula_at (xs ++ x ∷ []) k) e ∙ ap (λ fs. get_or fs (length xs) TRUE) (grow-append [] xs (x ∷ []))
    ∙ get_or_push (grow [] xs) (build_over (grow [] xs) x) TRUE (length xs) (omega (arith, length-grow [] xs))

-- what stands below a node, when more nodes count
wider : (a b i : ℕ) (x : Shape) → a ≤ b → ChildrenIn b i x → ChildrenIn a i x
wider a b i x h = All-weaker (λ k. (b ≤ k) × (k < i)) (λ k. (a ≤ k) × (k < i)) (λ k p. (omega (arith, h, p.0), p.1)) (children x)

none_below : (b i : ℕ) (x : Shape) → children x ≡ [] → ChildrenIn b i x
none_below b i x e = All-same (λ k. (b ≤ k) × (k < i)) (children x) [] e (All-nil (λ k. (b ≤ k) × (k < i)))

one_below : (b i k : ℕ) (x : Shape) → children x ≡ k ∷ [] → b ≤ k → k < i → ChildrenIn b i x
one_below b i k x e h l =
    let P : ℕ → Type 0 = λ k. (b ≤ k) × (k < i) in
    All-same P (children x) (k ∷ []) e (All-cons P k [] (h, l) (All-nil P))

two_below : (b i k m : ℕ) (x : Shape) → children x ≡ k ∷ m ∷ [] → b ≤ k → k < i → b ≤ m → m < i → ChildrenIn b i x
two_below b i k m x e h l g n =
    let P : ℕ → Type 0 = λ k. (b ≤ k) × (k < i) in
    All-same P (children x) (k ∷ m ∷ []) e (All-cons P k (m ∷ []) (h, l) (All-cons P m [] (g, n) (All-nil P)))

-- one more node
own_more : (b : ℕ) (ys : List Shape) (x : Shape) → Own b ys → ChildrenIn b (length ys) x → Own b (ys ++ x ∷ [])
own_more b ys x own here i h l = at (cases_lt i (length ys))
  where
    at : (i < length ys) ⊎ (length ys ≤ i) → ChildrenIn b i (get_or (ys ++ x ∷ []) i true_node)
    at (inl m) = subst (ChildrenIn b i) (sym (get_or_append_left ys (x ∷ []) true_node i m)) (own i h m)
    at (inr m) =
        let e : length ys ≡ i = omega (arith, length_push ys x) in
        subst (ChildrenIn b i) (sym (get_or_push ys x true_node i e)) (subst (λ (k : ℕ). ChildrenIn b k x) e here)

-- nodes in two goes
own_on : (a b : ℕ) (ys zs : List Shape) → a ≤ b → length ys ≡ b → Own a ys → Own b (ys ++ zs) → Own a (ys ++ zs)
own_on a b ys zs h n first second i g l = at (cases_lt i (length ys))
  where
    at : (i < length ys) ⊎ (length ys ≤ i) → ChildrenIn a i (get_or (ys ++ zs) i true_node)
    at (inl m) = subst (ChildrenIn a i) (sym (get_or_append_left ys zs true_node i m)) (first i g m)
    at (inr m) = wider a b i (get_or (ys ++ zs) i true_node) h (second i (omega arith) l)

own_none : (xs : List Shape) → Own (length xs) xs
own_none xs i h l = absurd (omega arith)

pub some_nodes : (t : Tree) → 1 ≤ size t
some_nodes tree.TRUE = omega arith
some_nodes tree.FALSE = omega arith
some_nodes (tree.NOT t) = omega arith
some_nodes (tree.AND t u) = omega arith
some_nodes (tree.OR t u) = omega arith
some_nodes (tree.short o c t) = omega arith
some_nodes (tree.path q l c t d u) = omega arith

pub record Put (v : Vocabulary) (t : Tree) (xs : List Shape) : Type 0 where
  pub room : length xs + size t ≤ 48
  pub new : List Shape
  pub is : lay v t (Some xs) ≡ Some (xs ++ new)
  pub long : length new ≡ size t
  pub own : Own (length xs) (xs ++ new)
  pub root : root_of (xs ++ new) ≡ by_names v t

pub record Over (v : Vocabulary) (t : Tree) (xs : List Shape) : Type 0 where
  pub no_room : 48 < length xs + size t
  pub is : lay v t (Some xs) ≡ None

-- one more node, if there is room
pushed : (xs : List Shape) (x : Shape) → length xs < 48 → push (Some xs) x ≡ Some (xs ++ x ∷ [])
pushed xs x h = cond-true (ltb (length xs) 48) _ _ (lt-ltb (length xs) 48 h)

not_pushed : (xs : List Shape) (x : Shape) → 48 ≤ length xs → push (Some xs) x ≡ None
not_pushed xs x h = cond-false (ltb (length xs) 48) _ _ (le-ltb (length xs) 48 h)

module _ (v : Vocabulary) where
  pub lay-none : (t : Tree) → lay v t None ≡ None
  lay-none tree.TRUE = refl
  lay-none tree.FALSE = refl
  lay-none (tree.NOT t) = ap (λ s. push s (not_node (top s))) (lay-none t)
  lay-none (tree.AND t u) = ap (λ s. push (lay v u s) (and_node (top s) (top (lay v u s)))) (lay-none t) ∙ ap (λ s. push s (and_node 0 (top s))) (lay-none u)
  lay-none (tree.OR t u) = ap (λ s. push (lay v u s) (or_node (top s) (top (lay v u s)))) (lay-none t) ∙ ap (λ s. push s (or_node 0 (top s))) (lay-none u)
  lay-none (tree.short o c t) = ap (λ s. push s (short_node o (set_of v.labels c) (top s))) (lay-none t)
  lay-none (tree.path q l c t d u) =
      ap (λ s. push (lay v u s) (path_node q l (set_of v.labels c) (top s) (set_of v.labels d) (top (lay v u s)))) (lay-none t)
      ∙ ap (λ s. push s (path_node q l (set_of v.labels c) 0 (set_of v.labels d) (top s))) (lay-none u)

  abbrev Laid : Tree → List Shape → Type 0
  Laid t xs = Put v t xs ⊎ Over v t xs

  -- a node without any below it
  alone : (w : Tree) (x : Shape) (xs : List Shape) → lay v w (Some xs) ≡ push (Some xs) x → size w ≡ 1 → ((fs : List Formula) → build_over fs x ≡ by_names v w) →
      children x ≡ [] → length xs ≤ 48 → Laid w xs
  alone w x xs e s b c h =
      ⊎_elim
      (λ l. inl (record {
        room = omega arith;
        new = x ∷ [];
        is = e ∙ pushed xs x l;
        long = sym s;
        own = own_more (length xs) xs x (own_none xs) (none_below (length xs) (length xs) x c);
        root = last_node xs x ∙ b (grow [] xs);
      }))
      (λ l. inr (record { no_room = omega arith; is = e ∙ not_pushed xs x l }))
      (cases_lt (length xs) 48)

  -- one with one below it
  above : (w t : Tree) (f : ℕ → Shape) (xs : List Shape) → lay v w (Some xs) ≡ push (lay v t (Some xs)) (f (top (lay v t (Some xs)))) → size w ≡ size t + 1 →
      ((fs : List Formula) (k : ℕ) → get_or fs k TRUE ≡ by_names v t → build_over fs (f k) ≡ by_names v w) →
      ((k : ℕ) → children (f k) ≡ k ∷ []) → Laid t xs → Laid w xs
  above w t f xs e s b c (inr o) = inr (record { no_room = omega (arith, o.no_room); is = e ∙ ap (λ x. push x (f (top x))) o.is })
  above w t f xs e s b c (inl p) =
      let ys : List Shape = xs ++ p.new in
      let x : Shape = f (length (xs ++ p.new) - 1) in
      let n : length (xs ++ p.new) ≡ length xs + size t = length-append xs p.new ∙ ap (λ k. length xs + k) p.long in
      ⊎_elim
      (λ l. inl (record {
        room = omega arith;
        new = p.new ++ x ∷ [];
        is = e ∙ ap (λ z. push z (f (top z))) p.is ∙ pushed ys x l ∙ ap Some (append_assoc xs p.new (x ∷ []));
        long = length_push p.new x ∙ ap (λ k. k + 1) p.long ∙ sym s;
        own =
            subst (Own (length xs)) (append_assoc xs p.new (x ∷ []))
            (own_more (length xs) ys x p.own
            (one_below (length xs) (length ys) (length ys - 1) x (c (length ys - 1)) (omega (arith, n, some_nodes t)) (omega (arith, n, some_nodes t))));
        root = ap root_of (sym (append_assoc xs p.new (x ∷ []))) ∙ last_node ys x ∙ b (grow [] ys) (length ys - 1) p.root;
      }))
      (λ l. inr (record { no_room = omega arith; is = e ∙ ap (λ z. push z (f (top z))) p.is ∙ not_pushed ys x l }))
      (cases_lt (length ys) 48)

  -- one with two below it
  module _ (w t u : Tree) (f : ℕ → ℕ → Shape) (xs : List Shape)
      (e : lay v w (Some xs) ≡ push (lay v u (lay v t (Some xs))) (f (top (lay v t (Some xs))) (top (lay v u (lay v t (Some xs))))))
      (s : size w ≡ size t + size u + 1)
      (b : (fs : List Formula) (k m : ℕ) → get_or fs k TRUE ≡ by_names v t → get_or fs m TRUE ≡ by_names v u → build_over fs (f k m) ≡ by_names v w)
      (c : (k m : ℕ) → children (f k m) ≡ k ∷ m ∷ []) where
    second : (p : Put v t xs) → Laid u (xs ++ p.new) → Laid w xs
    second p (inr o) =
        let n : length (xs ++ p.new) ≡ length xs + size t = length-append xs p.new ∙ ap (λ k. length xs + k) p.long in
        inr (record {
          no_room = omega (arith, o.no_room);
          is = e ∙ ap (λ z. push (lay v u z) (f (top z) (top (lay v u z)))) p.is ∙ ap (λ z. push z (f (length (xs ++ p.new) - 1) (top z))) o.is;
        })
    second p (inl q) =
        let ys : List Shape = xs ++ p.new in
        let zs : List Shape = (xs ++ p.new) ++ q.new in
        let x : Shape = f (length (xs ++ p.new) - 1) (length ((xs ++ p.new) ++ q.new) - 1) in
        let n : length (xs ++ p.new) ≡ length xs + size t = length-append xs p.new ∙ ap (λ k. length xs + k) p.long in
        let m : length ((xs ++ p.new) ++ q.new) ≡ length xs + size t + size u = length-append (xs ++ p.new) q.new ∙ ap (λ k. length (xs ++ p.new) + k) q.long ∙ ap (λ k. k + size u) n in
        let i = e ∙ ap (λ z. push (lay v u z) (f (top z) (top (lay v u z)))) p.is ∙ ap (λ z. push z (f (length ys - 1) (top z))) q.is in
        let a : zs ++ x ∷ [] ≡ xs ++ (p.new ++ (q.new ++ x ∷ [])) = append_assoc ys q.new (x ∷ []) ∙ append_assoc xs p.new (q.new ++ x ∷ []) in
        ⊎_elim
        (λ l. inl (record {
          room = omega arith;
          new = p.new ++ (q.new ++ x ∷ []);
          is = i ∙ pushed zs x l ∙ ap Some a;
          own =
              subst (Own (length xs)) a
              (own_more (length xs) zs x (own_on (length xs) (length ys) ys q.new (omega (arith, n)) refl p.own q.own)
              (two_below (length xs) (length zs) (length ys - 1) (length zs - 1) x (c (length ys - 1) (length zs - 1))
              (omega (arith, n, some_nodes t)) (omega (arith, n, m, some_nodes t, some_nodes u))
              (omega (arith, n, m, some_nodes t, some_nodes u)) (omega (arith, n, m, some_nodes t, some_nodes u))));
          long = length-append p.new (q.new ++ x ∷ []) ∙ ap (λ k. length p.new + k) (length_push q.new x) ∙ omega (arith, p.long, q.long);
          root = ap root_of (sym a) ∙ last_node zs x ∙ b (grow [] zs) (length ys - 1) (length zs - 1) (earlier ys q.new (length ys - 1) (omega (arith, n, some_nodes t)) ∙ p.root) q.root;
        }))
        (λ l. inr (record { no_room = omega arith; is = i ∙ not_pushed zs x l }))
        (cases_lt (length zs) 48)

    beside : Laid t xs → ((ys : List Shape) → length ys ≤ 48 → Laid u ys) → Laid w xs
    beside (inr o) g =
        inr (record {
          no_room = omega (arith, o.no_room);
          is = e ∙ ap (λ z. push (lay v u z) (f (top z) (top (lay v u z)))) o.is ∙ ap (λ z. push z (f 0 (top z))) (lay-none u);
        })
    beside (inl p) g = second p (g (xs ++ p.new) (omega (arith, length-append xs p.new, p.long, p.room)))

  pub laid : (t : Tree) (xs : List Shape) → length xs ≤ 48 → Laid t xs
  laid tree.TRUE xs h = alone tree.TRUE true_node xs refl refl (λ fs. refl) refl h
  laid tree.FALSE xs h = alone tree.FALSE false_node xs refl refl (λ fs. refl) refl h
  laid (tree.NOT t) xs h = above (tree.NOT t) t not_node xs refl refl (λ fs k e. ap NOT e) (λ k. refl) (laid t xs h)
  laid (tree.AND t u) xs h =
      beside (tree.AND t u) t u and_node xs refl refl
      (λ fs k m d e. ap (λ g. AND g (get_or fs m TRUE)) d ∙ ap (AND (by_names v t)) e) (λ k m. refl) (laid t xs h) (laid u)
  laid (tree.OR t u) xs h =
      beside (tree.OR t u) t u or_node xs refl refl
      (λ fs k m d e. ap (λ g. OR g (get_or fs m TRUE)) d ∙ ap (OR (by_names v t)) e) (λ k m. refl) (laid t xs h) (laid u)
  laid (tree.short o c t) xs h =
      above (tree.short o c t) t (short_node o (set_of v.labels c)) xs refl refl (λ fs k e. ap (short o (set_of v.labels c)) e) (λ k. refl) (laid t xs h)
  laid (tree.path q l c t d u) xs h =
      beside (tree.path q l c t d u) t u (λ k m. path_node q l (set_of v.labels c) k (set_of v.labels d) m) xs refl refl
      (λ fs k m a e. ap (λ g. path q l (set_of v.labels c) g (set_of v.labels d) (get_or fs m TRUE)) a ∙ ap (path q l (set_of v.labels c) (by_names v t) (set_of v.labels d)) e)
      (λ k m. refl) (laid t xs h) (laid u)
