-- What the derived operators say, in steps of the state and of its fullpaths.
use Rattle.std.proofs.Common.{ℕ, zero, suc, refl, inl, inr, arith}
use Rattle.meaning.specs.Lts.{Lts, Transition}
use Rattle.meaning.specs.Paths.{Fullpath, Kind, Has, Is, Until}
use Rattle.meaning.specs.Formula.{Actions, no_action, Formula, FALSE, EX, AX, Holds, Part}
use Rattle.meaning.specs.Laws.{FullpathExists, DerivedAsRead, DerivedReads}
use Rattle.meaning.proofs.Fullpaths.{Offers, any, follow, before, first_step, has_earlier, moves-on}
use Rattle.meaning.proofs.Operators.{reaches}
use Rattle.meaning.proofs.Reference.{part_told}

pub fullpath_exists : FullpathExists
fullpath_exists M s = follow M (any M) s

module _ (M : Lts) (c : Actions) (f : Formula) (s : ℕ) where
  abbrev StepIn : Kind
  StepIn = Part c (Holds M f)

  -- {FALSE} FALSE
  abbrev NoStep : Kind
  NoStep = Part no_action (Holds M FALSE)

  -- with no first step, U is about the first step of the path
  at_once : (π : Fullpath M s) → Until π NoStep StepIn → Has π 0 × Is π StepIn 0
  at_once π (zero, h, g, b) = (h, g)
  at_once π (suc i, h, g, b) = absurd (b 0 (omega arith)).1

  next_some : Holds M (EX c f) s → Offers M s StepIn
  next_some (π, u) = let (h, g) = at_once π u in (π.act 0, π.state 1, first_step M π h, g)

  way : {a t : ℕ} → Transition M s a t → Fullpath M s
  way {a} {t} tr = before M tr (follow M (any M) t)

  some_next : Offers M s StepIn → Holds M (EX c f) s
  unfolding way
  some_next (a, t, tr, y) = (way tr, (0, moves-on M tr, y, λ j l. absurd (omega arith)))

  next-all : Holds M (AX c f) s → (a t : ℕ) → Transition M s a t → StepIn a t
  unfolding way
  next-all all a t tr =
      elim (part_told M c f a t (reaches M tr)) [
        | inl y ↦ y
        | inr n ↦ absurd (all (way tr) (λ u. n (at_once (way tr) u).1) 0 (moves-on M tr)).1
      ]

  all-next : ((a t : ℕ) → Transition M s a t → StepIn a t) → Holds M (AX c f) s
  all-next all π nu i h =
      let h0 : Has π 0 = start i h in
      absurd (nu (0, h0, all (π.act 0) (π.state 1) (first_step M π h0), λ j l. absurd (omega arith)))
    where
      start : (i : ℕ) → Has π i → Has π 0
      start zero h = h
      start (suc i) h = has_earlier M π (suc i) h 0 (omega arith)

  as_read : DerivedAsRead M c f s
  as_read = record {
    EX_reads = (next_some, some_next);
    AX_reads = (next-all, all-next);
    EF_reads = (λ (π, u). (π, u.0, u.1, u.2), λ (π, i, h, g). (π, (i, h, g, λ j l. (refl, tt))));
    AF_reads = (λ all π. let u = all π in (u.0, u.1, u.2), λ all π. let u = all π in (u.0, u.1, u.2, λ j l. (refl, tt)));
    EG_reads = (λ (π, w). (π, w (λ u. u.2.1)), λ (π, all). (π, λ nu. all));
    AG_reads = (λ w π. w π (λ u. u.2.1), λ all π nu. all π);
  }

pub derived_reads : DerivedReads
derived_reads M c f s = as_read M c f s
