-- Weights that are told by numbers: a path that is lightest by the ones is so by the others.
use Rattle.std.proofs.Common.{◌≡◌, ℕ, true, List, [], ◌∷◌, Some, None, Option, inl, inr, sym, refl, ap, ◌∙◌, ⊎_elim}
use Rattle.meaning.specs.Deciding.{Step}
use Rattle.meaning.specs.DecidingPaths.{DecidingPath, ended, looping, LightestOne, HandedOut, HandedOutOf}
use Rattle.meaning.specs.Formula.{Quantifier, Temporal, Formula, TRUE, FALSE, NOT, AND, OR, path, Holds, Part}
use Rattle.meaning.specs.Lts.{Lts}
use Rattle.meaning.specs.Paths.{Kind}
use Rattle.meaning.specs.Scales.{Scale}
use Rattle.meaning.specs.Weights.{weigh, Lightest}

-- a weight is told by another
pub record ToldBy {V W : Type 0} (a : Scale V) (b : Scale W) (f : V → W) : Type 0 where
  pub start : f a.start ≡ b.start
  pub at_most : (v w : V) → a.at_most v w ≡ b.at_most (f v) (f w)
  pub join : (v : V) (c : ℕ) → f (a.join v c) ≡ b.join (f v) c

abbrev below : {V : Type 0} → Scale V → V → V → Type 0
below a v w = a.at_most v w ≡ true

module _ {V W : Type 0} (a : Scale V) (b : Scale W) (f : V → W) (told : ToldBy a b f) (tariff : ℕ → ℕ) where
  weighs : (v : V) (w : List Step) → f (weigh (below a) a.join tariff v w) ≡ weigh (below b) b.join tariff (f v) w
  weighs v [] = refl
  weighs v (x ∷ r) = weighs (a.join v (tariff x.0)) r ∙ ap (λ z. weigh (below b) b.join tariff z r) (told.join v (tariff x.0))

  from_start : (w : List Step) → f (weigh (below a) a.join tariff a.start w) ≡ weigh (below b) b.join tariff b.start w
  from_start w = weighs a.start w ∙ ap (λ z. weigh (below b) b.join tariff z w) told.start

  module _ (M : Lts) (Pass Last : Kind) (s : ℕ) where
    lightest : (w : List Step) → Lightest (below a) a.join tariff a.start M Pass Last s w → Lightest (below b) b.join tariff b.start M Pass Last s w
    lightest w h = (
      h.0,
      λ v k.
          sym (ap (λ z. b.at_most z (weigh (below b) b.join tariff b.start v)) (from_start w))
          ∙ sym (ap (λ z. b.at_most (f (weigh (below a) a.join tariff a.start w)) z) (from_start v))
          ∙ sym (told.at_most _ _) ∙ h.1 v k,
    )

    lightest_one : (p : DecidingPath) → LightestOne a tariff M Pass Last s p → LightestOne b tariff M Pass Last s p
    lightest_one (ended v) h = lightest v h
    lightest_one (looping v w) h = h

  handed_out : (M : Lts) (q : Quantifier) (o : Temporal) (First Second : Kind) (s : ℕ) (r : Option DecidingPath)
      → HandedOut a tariff M q o First Second s r → HandedOut b tariff M q o First Second s r
  handed_out M q o First Second s None h = h
  handed_out M q o First Second s (Some p) h = (h.0, ⊎_elim (λ l. inl (lightest_one M _ _ s p l)) (λ l. inr l) h.1)

  pub handed_out_of : (M : Lts) (f : Formula) (s : ℕ) (r : Option DecidingPath) → HandedOutOf a tariff M f s r → HandedOutOf b tariff M f s r
  handed_out_of M TRUE s r h = h
  handed_out_of M FALSE s r h = h
  handed_out_of M (NOT f) s r h = handed_out_of M f s r h
  handed_out_of M (AND f g) s r h = h
  handed_out_of M (OR f g) s r h = h
  handed_out_of M (path q o c f d g) s r h = handed_out M q o (Part c (Holds M f)) (Part d (Holds M g)) s r h
