-- The places of a bounded vector, as values come.
use Rattle.std.proofs.Common.{◌≡◌, ℕ, ◌+◌, ◌-◌, ◌<◌, ◌≤◌, List, length, drop, replicate, ◌++◌, set, sym, ap, ◌∙◌, arith}
use Rattle.std.proofs.lemmas.List.{length-append, length-drop, length-replicate, drop_at, drop-set-lt, drop-drop, drop-replicate}
use Rattle.std.proofs.Math.ListN.{length-set}
use Rattle.base.specs.BoundedVec.{IsFilled}

module _ {T : Type 0} (N : ℕ) (f : T) (places : List T) (len : ℕ) (filled : IsFilled N f places len) where
  -- one value more
  pub filled-push : (x : T) → len < N → IsFilled N f (set places len x) (len + 1)
  filled-push x h =
      record {
        exactly = length-set places len x ∙ filled.exactly;
        within = omega arith;
        rest =
            drop-set-lt (len + 1) places len x (omega arith) ∙ sym (drop-drop 1 len places) ∙ ap (drop 1) filled.rest
            ∙ drop-replicate 1 (N - len) f ∙ ap (λ n. replicate n f) (omega arith);
      }

-- some values in front of fillers
pub filled-front : {T : Type 0} (N : ℕ) (f : T) (xs : List T) (len : ℕ) → length xs ≡ len → len ≤ N →
    IsFilled N f (xs ++ drop len (replicate N f)) len
filled-front N f xs len long fits =
    record {
      exactly = omega (arith, length-append xs (drop len (replicate N f)), length-drop len (replicate N f), length-replicate N f);
      within = fits;
      rest = drop_at xs (drop len (replicate N f)) len long ∙ drop-replicate len N f;
    }
