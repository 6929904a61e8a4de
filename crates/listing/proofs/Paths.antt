-- Whether there is a path to hand out.
use Rattle.std.proofs.Common.{◌≡◌, ℕ, ◌<◌, Some, None, Option, is_some, inl, inr, sym, refl, subst, ⊎_elim}
use Rattle.std.proofs.lemmas.Option.{none-some}
use Rattle.meaning.specs.Deciding.{Lasting, Lasts, HasDeciding, Shows}
use Rattle.meaning.specs.DecidingPaths.{DecidingPath, ended, looping, Chosen, HandedOut, HasDecidingOf, HasToShow, HandedOutOf}
use Rattle.meaning.specs.Formula.{Quantifier, E, A, Temporal, U, W, Formula, TRUE, FALSE, NOT, AND, OR, path, Holds, Part}
use Rattle.meaning.specs.Lts.{Lts}
use Rattle.meaning.specs.Paths.{Kind}
use Rattle.meaning.specs.Scales.{Scale}
use Rattle.search.proofs.Formulas.{where_shown}
use Rattle.listing.proofs.Sames.{Same, back, holds}

chosen_lasts : (M : Lts) (K : Kind) (s : ℕ) (p : DecidingPath) → Chosen M s K p → Lasts M s K
chosen_lasts M K s (ended v) h = inl (v, h)
chosen_lasts M K s (looping v w) h = inr (v, w, h.1)

module _ {V : Type 0} (scale : Scale V) (tariff : ℕ → ℕ) where
  module _ (M : Lts) (First Second : Kind) (s : ℕ) where
    lasting_lasts : (q : Quantifier) (o : Temporal) (p : DecidingPath) → Lasting q o First Second (λ K. Chosen M s K p)
        → Lasting q o First Second (Lasts M s)
    lasting_lasts E U p h = h
    lasting_lasts E W p h = chosen_lasts M First s p h
    lasting_lasts A U p h = chosen_lasts M _ s p h
    lasting_lasts A W p h = h

    one_there : (q : Quantifier) (o : Temporal) (p : DecidingPath) → HandedOut scale tariff M q o First Second s (Some p)
        → HasDeciding M q o First Second s
    one_there q o (ended v) h = ⊎_elim (λ l. inl (v, l.0)) (λ l. inr (lasting_lasts q o (ended v) l.1)) h.1
    one_there q o (looping v w) h = ⊎_elim (λ l. absurd l) (λ l. inr (lasting_lasts q o (looping v w) l.1)) h.1

  pub is_there : (M : Lts) (f : Formula) (s : ℕ) (p : DecidingPath) → HandedOutOf scale tariff M f s (Some p) → HasDecidingOf M f s
  is_there M TRUE s p h = absurd (none-some p (sym h))
  is_there M FALSE s p h = absurd (none-some p (sym h))
  is_there M (NOT f) s p h = is_there M f s p h
  is_there M (AND f g) s p h = absurd (none-some p (sym h))
  is_there M (OR f g) s p h = absurd (none-some p (sym h))
  is_there M (path q o c f d g) s p h = one_there M (Part c (Holds M f)) (Part d (Holds M g)) s q o p h

  pub not_there : (M : Lts) (f : Formula) (s : ℕ) → HandedOutOf scale tariff M f s None → HasDecidingOf M f s → ⊥
  not_there M TRUE s h k = k
  not_there M FALSE s h k = k
  not_there M (NOT f) s h k = not_there M f s h k
  not_there M (AND f g) s h k = k
  not_there M (OR f g) s h k = k
  not_there M (path q o c f d g) s h k = h k

-- the same is to be shown in both
shown : (q : Quantifier) (P Q : Type 0) → (P → Q) → (Q → P) → Shows q P → Shows q Q
shown E P Q f g h = f h
shown A P Q f g h = λ k. h (g k)

to_show : {M N : Lts} → Same M N → (f : Formula) (s : ℕ) → HasToShow M f s → HasToShow N f s
to_show e TRUE s h = h
to_show e FALSE s h = h
to_show e (NOT f) s h = to_show e f s h
to_show e (AND f g) s h = h
to_show e (OR f g) s h = h
to_show {M} {N} e (path q o c f d g) s h =
    shown q (Holds M (path q o c f d g) s) (Holds N (path q o c f d g) s) (holds e (path q o c f d g) s) (holds (back e) (path q o c f d g) s) h

has_deciding : {M N : Lts} → Same M N → (f : Formula) (s : ℕ) → s < M.states → s < N.states → HasDecidingOf M f s → HasDecidingOf N f s
has_deciding {M} {N} e f s l m h = (where_shown N f s m).1 (to_show e f s ((where_shown M f s l).0 h))

-- whether a path is handed out is the same in both
module _ {V : Type 0} (scale : Scale V) (tariff : ℕ → ℕ) (M N : Lts) (e : Same M N) (f : Formula) where
  begins : M.start < N.states
  begins = subst (λ (n : ℕ). M.start < n) e.states M.lawful.begins

  pub both_or_none : (p q : Option DecidingPath) → HandedOutOf scale tariff M f M.start p → HandedOutOf scale tariff N f M.start q → is_some p ≡ is_some q
  both_or_none None None h k = refl
  both_or_none (Some p) (Some q) h k = refl
  both_or_none None (Some q) h k =
      absurd (not_there scale tariff M f M.start h (has_deciding (back e) f M.start begins M.lawful.begins (is_there scale tariff N f M.start q k)))
  both_or_none (Some p) None h k =
      absurd (not_there scale tariff N f M.start k (has_deciding e f M.start M.lawful.begins begins (is_there scale tariff M f M.start p h)))
