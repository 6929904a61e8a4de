-- Deciding paths by kinds of steps that agree on the steps that there are.
use Rattle.std.proofs.Common.{ℕ, List, Some, None, Option, inl, inr}
use Rattle.meaning.specs.Deciding.{Step, Walk, none, step, Decisive, last, pass, OnlyFirst, Goal, Lasting, Lasts, Ended, Looping, HasDeciding}
use Rattle.meaning.specs.DecidingPaths.{DecidingPath, ended, looping, Chosen, LightestOne, HandedOut}
use Rattle.meaning.specs.Formula.{Quantifier, E, A, Temporal, U, W}
use Rattle.meaning.specs.Lts.{Lts, Transition}
use Rattle.meaning.specs.Paths.{Kind}
use Rattle.meaning.specs.Scales.{Scale}

abbrev pub Inside : Lts → Kind → Kind → Type 0
Inside M K J = (x a t : ℕ) → Transition M x a t → K a t → J a t

-- kinds that agree on the steps that there are
pub record AgreeOn (M : Lts) (K J : Kind) : Type 0 where
  pub into : Inside M K J
  pub back : Inside M J K

pub turned : {M : Lts} {K J : Kind} → AgreeOn M K J → AgreeOn M J K
turned a = record { into = a.back; back = a.into }

walk_in : {M : Lts} (K J : Kind) → Inside M K J → {s u : ℕ} {w : List Step} → Walk M K s w u → Walk M J s w u
walk_in K J f none = none
walk_in K J f (step tr y r) = step tr (f _ _ _ tr y) (walk_in K J f r)

decisive_in : {M : Lts} (P P' L L' : Kind) → Inside M P P' → Inside M L L' → {s : ℕ} {w : List Step} → Decisive M P L s w → Decisive M P' L' s w
decisive_in P P' L L' f g (last tr y) = last tr (g _ _ _ tr y)
decisive_in P P' L L' f g (pass tr y r) = pass tr (f _ _ _ tr y) (decisive_in P P' L L' f g r)

module _ (M : Lts) (K J : Kind) (f : Inside M K J) (s : ℕ) where
  ended_in : (w : List Step) → Ended M s w K → Ended M s w J
  ended_in w e = (e.0, walk_in K J f e.1, e.2)

  looping_in : (v w : List Step) → Looping M s v w K → Looping M s v w J
  looping_in v w e = (e.0, walk_in K J f e.1, walk_in K J f e.2, e.3)

  lasts_in : Lasts M s K → Lasts M s J
  lasts_in (inl e) = inl (e.0, ended_in e.0 e.1)
  lasts_in (inr e) = inr (e.0, e.1, looping_in e.0 e.1 e.2)

chosen_on : (M : Lts) (K J : Kind) → AgreeOn M K J → (s : ℕ) (p : DecidingPath) → Chosen M s K p → Chosen M s J p
chosen_on M K J a s (ended v) e = ended_in M K J a.into s v e
chosen_on M K J a s (looping v w) (n, e) = (λ u d. n u (ended_in M J K a.back s u d), looping_in M K J a.into s v w e)

module _ (M : Lts) (F F' G G' : Kind) (f : AgreeOn M F F') (g : AgreeOn M G G') where
  first_in : Inside M (OnlyFirst F G) (OnlyFirst F' G')
  first_in x a t tr y = (f.into x a t tr y.0, λ z. y.1 (g.back x a t tr z))

  goal_in : (q : Quantifier) → Inside M (Goal q F G) (Goal q F' G')
  goal_in E x a t tr y = g.into x a t tr y
  goal_in A x a t tr y = (λ z. y.0 (f.back x a t tr z), λ z. y.1 (g.back x a t tr z))

  lasting_on : (q : Quantifier) (o : Temporal) (P : Kind → Type 0) → ((K J : Kind) → AgreeOn M K J → P K → P J) → Lasting q o F G P → Lasting q o F' G' P
  lasting_on E U P h x = absurd x
  lasting_on E W P h x = h F F' f x
  lasting_on A U P h x =
      h (λ a t. ¬ G a t) (λ a t. ¬ G' a t) (record { into = λ y a t tr n z. n (g.back y a t tr z); back = λ y a t tr n z. n (g.into y a t tr z) }) x
  lasting_on A W P h x = absurd x

  decisive_on : (q : Quantifier) {s : ℕ} {w : List Step} → Decisive M (OnlyFirst F G) (Goal q F G) s w → Decisive M (OnlyFirst F' G') (Goal q F' G') s w
  decisive_on q d = decisive_in (OnlyFirst F G) (OnlyFirst F' G') (Goal q F G) (Goal q F' G') first_in (goal_in q) d

  pub deciding_on : (q : Quantifier) (o : Temporal) (s : ℕ) → HasDeciding M q o F G s → HasDeciding M q o F' G' s
  deciding_on q o s (inl e) = inl (e.0, decisive_on q e.1)
  deciding_on q o s (inr e) = inr (lasting_on q o (Lasts M s) (λ K J a. lasts_in M K J a.into s) e)

module _ {V : Type 0} (scale : Scale V) (tariff : ℕ → ℕ) (M : Lts) (F F' G G' : Kind) (f : AgreeOn M F F') (g : AgreeOn M G G') (q : Quantifier) (o : Temporal) (s : ℕ) where
  lightest_on : (p : DecidingPath) → LightestOne scale tariff M (OnlyFirst F G) (Goal q F G) s p → LightestOne scale tariff M (OnlyFirst F' G') (Goal q F' G') s p
  lightest_on (ended v) l = (decisive_on M F F' G G' f g q l.0, λ w d. l.1 w (decisive_on M F' F G' G (turned f) (turned g) q d))
  lightest_on (looping v w) l = absurd l

  -- what is handed out by kinds is handed out by kinds that agree with them
  pub handed_out_on : (r : Option DecidingPath) → HandedOut scale tariff M q o F G s r → HandedOut scale tariff M q o F' G' s r
  handed_out_on None n = λ h. n (deciding_on M F' F G' G (turned f) (turned g) q o s h)
  handed_out_on (Some p) (once, h) = (
    once,
    elim h [
      | inl l ↦ inl (lightest_on p l)
      | inr e ↦ inr (λ w d. e.0 w (decisive_on M F' F G' G (turned f) (turned g) q d), lasting_on M F F' G G' f g q o (λ K. Chosen M s K p) (λ K J a. chosen_on M K J a s p) e.1)
    ],
  )
