-- Two transition systems with the same answers: a formula holds in both or in neither.
use Rattle.std.proofs.Common.{◌≡◌, ℕ, inl, inr, sym, ◌∙◌, ⊎_elim}
use Rattle.meaning.specs.Formula.{Quantifier, E, A, Temporal, U, W, Formula, TRUE, FALSE, NOT, AND, OR, path, Holds, PathHolds, Part}
use Rattle.meaning.specs.Lts.{Lts, Transition, Deadlocked}
use Rattle.meaning.specs.Paths.{Fullpath, Kind, Until, Unless}

pub record Same (M N : Lts) : Type 0 where
  pub states : M.states ≡ N.states
  pub start : M.start ≡ N.start
  pub slots : (s k : ℕ) → M.slot s k ≡ N.slot s k

abbrev pub back : {M N : Lts} → Same M N → Same N M
back e = record { states = sym e.states; start = sym e.start; slots = λ s k. sym (e.slots s k) }

module _ {M N : Lts} (e : Same M N) where
  transition : (s a t : ℕ) → Transition M s a t → Transition N s a t
  transition s a t h = (h.0, sym (e.slots s h.0) ∙ h.1)

  deadlock : (s : ℕ) → Deadlocked M s → Deadlocked N s
  deadlock s d = λ k. sym (e.slots s k) ∙ d k

abbrev fullpath : {M N : Lts} → Same M N → (s : ℕ) → Fullpath M s → Fullpath N s
fullpath e s π = record {
  state = π.state;
  act = π.act;
  begins = π.begins;
  moves = λ i n. transition e _ _ _ (π.moves i (λ d. n (deadlock e _ d)));
  stays = λ i d. π.stays i (deadlock (back e) _ d);
}

-- every step of a kind is of another
abbrev Into : Kind → Kind → Type 0
Into F G = (a t : ℕ) → F a t → G a t

module _ {M N : Lts} (e : Same M N) (F G P Q : Kind) (f : Into F P) (g : Into G Q) (s : ℕ) (π : Fullpath M s) where
  until : Until π F G → Until (fullpath e s π) P Q
  until u = (u.0, λ d. u.1 (deadlock (back e) _ d), g _ _ u.2, λ j l. f _ _ (u.3 j l))

module _ {M N : Lts} (e : Same M N) (F G P Q : Kind) (f : Into F P) (f' : Into P F) (g : Into G Q) (g' : Into Q G) where
  unless : (s : ℕ) (π : Fullpath M s) → Unless π F G → Unless (fullpath e s π) P Q
  unless s π u = λ n i h. f _ _ (u (λ w. n (until e F G P Q f g s π w)) i (λ d. h (deadlock e _ d)))

  path_holds : (q : Quantifier) (o : Temporal) (s : ℕ) → PathHolds M q o F G s → PathHolds N q o P Q s
  path_holds E U s h = (fullpath e s h.0, until e F G P Q f g s h.0 h.1)
  path_holds E W s h = (fullpath e s h.0, unless s h.0 h.1)
  path_holds A U s h = λ π. until e F G P Q f g s (fullpath (back e) s π) (h (fullpath (back e) s π))
  path_holds A W s h = λ π. unless s (fullpath (back e) s π) (h (fullpath (back e) s π))

pub holds : {M N : Lts} → Same M N → (f : Formula) (s : ℕ) → Holds M f s → Holds N f s
holds e TRUE s h = tt
holds e FALSE s h = h
holds e (NOT f) s h = λ k. h (holds (back e) f s k)
holds e (AND f g) s h = (holds e f s h.0, holds e g s h.1)
holds e (OR f g) s h = ⊎_elim (λ k. inl (holds e f s k)) (λ k. inr (holds e g s k)) h
holds {M} {N} e (path q o c f d g) s h =
    path_holds e (Part c (Holds M f)) (Part d (Holds M g)) (Part c (Holds N f)) (Part d (Holds N g))
    (λ a t p. (p.0, holds e f t p.1)) (λ a t p. (p.0, holds (back e) f t p.1)) (λ a t p. (p.0, holds e g t p.1)) (λ a t p. (p.0, holds (back e) g t p.1)) q o s h
