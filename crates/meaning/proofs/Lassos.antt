-- A path that keeps out of a set shows a deciding path of finitely many steps; and a forced goal leaves no lasting path.
use Rattle.std.proofs.Common.{◌≡◌, ℕ, zero, suc, pred, ◌+◌, ◌-◌, ◌<◌, ◌≤◌, ◌⊎◌, List, [], ◌∷◌, ◌++◌, sym, refl, ap, ◌∙◌, subst, inl, inr, arith}
use mathlib.Core.List.{cons≢nil}
use native.Mathlib.Decide.{dec_le, ℕ_discrete}
use Rattle.meaning.specs.Lts.{Lts, Transition, Deadlocked}
use Rattle.meaning.specs.Paths.{Fullpath, Kind, Has, Is}
use Rattle.meaning.specs.Deciding.{Step, Walk, none, step, Decisive, last, pass, Lasts}
use Rattle.meaning.specs.Sets.{Forced, forced}
use Rattle.meaning.proofs.Fullpaths.{seek}
use Rattle.meaning.proofs.Operators.{reaches}

-- the numbers without v, closed up
abbrev squash : (v x : ℕ) → Dec (v < x) → ℕ
squash v x (yes l) = x - 1
squash v x (no l) = x

squash_below : (n v x : ℕ) (d : Dec (v < x)) → v < suc n → x < suc n → ¬ (x ≡ v) → squash v x d < n
squash_below n v x (yes l) p q ne = omega arith
squash_below n v x (no l) p q ne = omega arith

squash-same : (v x y : ℕ) (d : Dec (v < x)) (e : Dec (v < y)) → ¬ (x ≡ v) → ¬ (y ≡ v) → squash v x d ≡ squash v y e → x ≡ y
squash-same v x y (yes l) (yes m) p q e = omega arith
squash-same v x y (yes l) (no m) p q e = omega arith
squash-same v x y (no l) (yes m) p q e = omega arith
squash-same v x y (no l) (no m) p q e = omega arith

-- two places below n + 1 with the same number
abbrev Repeats : (n : ℕ) → (ℕ → ℕ) → Type 0
Repeats n f = (i : ℕ) × (j : ℕ) × (i < j) × (j ≤ n) × (f i ≡ f j)

-- n + 1 numbers below n are not all different
pigeon : (n : ℕ) (f : ℕ → ℕ) → ((i : ℕ) → i ≤ n → f i < n) → Repeats n f
pigeon zero f b = absurd (let l = b 0 (omega arith) in omega arith)
pigeon (suc n) f b = go (seek P dec (suc n)) (pigeon n g)
  where
    v : ℕ
    v = f (suc n)

    P : ℕ → Type 0
    P i = (i < suc n) × (f i ≡ v)

    dec : (i : ℕ) → P i ⊎ ¬ P i
    dec i =
        elim (dec_le (suc i) (suc n)) [
          | no l ↦ inr (λ p. l p.0)
          | yes l ↦ elim (ℕ_discrete (f i) v) [ yes e ↦ inl (l, e) | no ne ↦ inr (λ p. ne p.1) ]
        ]

    g : ℕ → ℕ
    g i = squash v (f i) (dec_le (suc v) (f i))

    go : ((k : ℕ) × P k) ⊎ ((k : ℕ) → k < suc n → ¬ P k) → (((i : ℕ) → i ≤ n → g i < n) → Repeats n g) → Repeats (suc n) f
    go (inl (i, p)) fewer = (i, suc n, p.0, omega arith, p.1)
    go (inr np) fewer =
        let off : (i : ℕ) → i ≤ n → ¬ (f i ≡ v) = (λ i l e. np i (omega arith) (omega arith, e)) in
        let r = fewer (λ i l. squash_below n v (f i) (dec_le (suc v) (f i)) (b (suc n) (omega arith)) (b i (omega arith)) (off i l)) in
        let i = r.0 in let j = r.1 in let l = r.2 in let m = r.3 in
        let same = squash-same v (f i) (f j) (dec_le (suc v) (f i)) (dec_le (suc v) (f j)) (off i (omega arith)) (off j (omega arith)) r.4 in
        (i, j, l, omega arith, same)

module _ {M : Lts} {s : ℕ} (π : Fullpath M s) where
  -- n steps of a fullpath from its step i on
  abbrev steps : ℕ → ℕ → List Step
  steps i zero = []
  steps i (suc n) = (π.act i, π.state (suc i)) ∷ steps (suc i) n

  -- the place after them
  abbrev fin : ℕ → ℕ → ℕ
  fin i zero = i
  fin i (suc n) = fin (suc i) n

  fin-is : (i n : ℕ) → fin i n ≡ i + n
  fin-is i zero = omega arith
  fin-is i (suc n) = let e = fin-is (suc i) n in omega arith

  module _ (K : Kind) (B : ℕ) (kept : (j : ℕ) → j < B → Has π j × Is π K j) where
    walk : (i n : ℕ) → i + n ≤ B → Walk M K (π.state i) (steps i n) (π.state (fin i n))
    walk i zero l = none
    walk i (suc n) l = let k = kept i (omega arith) in step (π.moves i k.0) k.1 (walk (suc i) n (omega arith))

    decisive : (L : Kind) (i n : ℕ) → i + n ≤ B → Has π (fin i n) → Is π L (fin i n) → Decisive M K L (π.state i) (steps i (suc n))
    decisive L i zero l h y = last (π.moves i h) y
    decisive L i (suc n) l h y =
        let k = kept i (omega arith) in pass (π.moves i k.0) k.1 (decisive L (suc i) n (omega arith) h y)

-- what a path shows that goes on by steps of one kind unless it comes to a last one
abbrev pub Shown : Lts → Kind → Kind → ℕ → Type 0
Shown M K L s = ((w : List Step) × Decisive M K L s w) ⊎ Lasts M s K

module _ {M : Lts} {s : ℕ} (π : Fullpath M s) (K L : Kind) (Out : ℕ → Type 0)
    (next : (i : ℕ) → Out (π.state i) → Deadlocked M (π.state i) ⊎ (Has π i × (Is π L i ⊎ (Is π K i × Out (π.state (suc i))))))
    (out : Out (π.state 0)) where
  -- the first B steps keep on
  abbrev Kept : ℕ → Type 0
  Kept B = Out (π.state B) × ((j : ℕ) → j < B → Has π j × Is π K j)

  scan : (B : ℕ) → Shown M K L (π.state 0) ⊎ Kept B
  scan zero = inr (out, λ j l. absurd (omega arith))
  scan (suc B) = go (scan B)
    where
      there : B ≡ fin π 0 B
      there = let q = fin-is π 0 B in omega arith

      ended : Kept B → Deadlocked M (π.state B) → Shown M K L (π.state 0)
      ended k d =
          let dead = subst (λ (x : ℕ). Deadlocked M (π.state x)) there d in
          inr (inl (steps π 0 B, (π.state (fin π 0 B), walk π K B k.1 0 B (omega arith), dead)))

      decided : Kept B → Has π B → Is π L B → Shown M K L (π.state 0)
      decided k h y =
          let has = subst (λ (x : ℕ). Has π x) there h in let is = subst (λ (x : ℕ). Is π L x) there y in
          inl (steps π 0 (suc B), decisive π K B k.1 L 0 B (omega arith) has is)

      more : Kept B → Has π B → Is π K B → (j : ℕ) → j < suc B → Has π j × Is π K j
      more k h y j l =
          elim (dec_le (suc j) B)
          [ yes m ↦ k.1 j m | no m ↦ (let e : B ≡ j = omega arith in subst (λ (x : ℕ). Has π x × Is π K x) e (h, y)) ]

      go : Shown M K L (π.state 0) ⊎ Kept B → Shown M K L (π.state 0) ⊎ Kept (suc B)
      go (inl r) = inl r
      go (inr k) =
          elim (next B k.0) [
            | inl d ↦ inl (ended k d)
            | inr ho ↦ elim ho.1 [ inl y ↦ inl (decided k ho.0 y) | inr yo ↦ inr (yo.1, more k ho.0 yo.0) ]
          ]

  -- the stem has i + 1 steps, and the cycle d + 1
  looping : (B : ℕ) → Kept B → (i d : ℕ) → suc i + suc d ≤ B → π.state (suc i) ≡ π.state (suc (i + suc d)) → Shown M K L (π.state 0)
  looping B k i d l e =
      let to : fin π 0 (suc i) ≡ suc i = (let q = fin-is π 0 (suc i) in omega arith) in
      let back : fin π (suc i) (suc d) ≡ suc (i + suc d) = (let q = fin-is π (suc i) (suc d) in omega arith) in
      inr (inr (
        steps π 0 (suc i),
        steps π (suc i) (suc d),
        (
          π.state (suc i),
          subst (λ (x : ℕ). Walk M K (π.state 0) (steps π 0 (suc i)) (π.state x)) to (walk π K B k.1 0 (suc i) (omega arith)),
          subst (λ (x : ℕ). Walk M K (π.state (suc i)) (steps π (suc i) (suc d)) x) (ap π.state back ∙ sym e) (walk π K B k.1 (suc i) (suc d) l),
          cons≢nil,
        ),
      ))

  -- with one step more than there are states, some state comes twice
  pub shown : Shown M K L s
  shown = subst (Shown M K L) π.begins (go (scan (suc M.states)))
    where
      repeated : Kept (suc M.states) → (i j : ℕ) → i < j → j ≤ M.states → π.state (suc i) ≡ π.state (suc j) → Shown M K L (π.state 0)
      repeated k i j l m e =
          let q : j ≡ i + suc (pred (j - i)) = omega arith in
          looping (suc M.states) k i (pred (j - i)) (omega arith) (subst (λ (x : ℕ). π.state (suc i) ≡ π.state (suc x)) q e)

      go : Shown M K L (π.state 0) ⊎ Kept (suc M.states) → Shown M K L (π.state 0)
      go (inl r) = r
      go (inr k) =
          let r = pigeon M.states (λ i. π.state (suc i)) (λ i l. reaches M (π.moves i (k.1 i (omega arith)).0)) in
          repeated k r.0 r.1 r.2 r.3 r.4

snoc : {M : Lts} {K : Kind} {s u a t : ℕ} {w : List Step} → Walk M K s w u → Transition M u a t → K a t → Walk M K s (w ++ ((a, t) ∷ [])) t
snoc none tr y = step tr y none
snoc (step tr' y' r) tr y = step tr' y' (snoc r tr y)

-- A forced goal leaves no lasting path of steps that are not goals: a cycle could be turned for ever.
module _ {M : Lts} {Goal Pass : Kind} (K : Kind) (not-goal : (a t : ℕ) → K a t → ¬ Goal a t) where
  forced-on : {s u : ℕ} {w : List Step} → Forced M Goal Pass s → Walk M K s w u → Forced M Goal Pass u
  forced-on f none = f
  forced-on (forced n ps fs) (step tr y r) = forced-on (fs _ _ tr (not-goal _ _ y)) r

  no_cycle : {s : ℕ} → Forced M Goal Pass s → (c : Step) (w : List Step) → Walk M K s (c ∷ w) s → ⊥
  no_cycle (forced n ps fs) c [] (step {a = a} {t = t} tr y none) =
      no_cycle (fs a t tr (not-goal a t y)) (a, t) [] (step tr y none)
  no_cycle (forced n ps fs) c (d ∷ w) (step {a = a} {t = t} tr y r) =
      no_cycle (fs a t tr (not-goal a t y)) d (w ++ ((a, t) ∷ [])) (snoc r tr y)

  no_end : {u : ℕ} → Forced M Goal Pass u → ¬ Deadlocked M u
  no_end (forced n ps fs) = n

  pub no_lasting : {s : ℕ} → Forced M Goal Pass s → ¬ Lasts M s K
  no_lasting f (inl (w, (u, r, d))) = no_end (forced-on f r) d
  no_lasting f (inr (v, [], (u, r, c, ne))) = ne refl
  no_lasting f (inr (v, x ∷ w, (u, r, c, ne))) = no_cycle (forced-on f r) x w c
