use Rattle.std.proofs.Common.{◌≡◌, ℕ, ◌+◌, ◌++◌, ◌∷◌, [], ◌-◌, ◌≤◌, Bool, true, false, cond, ltb, List, map, length, Some, None, Option, sym, refl, subst, ap, ◌∙◌, arith}
use Rattle.std.proofs.lemmas.List.{length-map, length_push}
use Rattle.std.proofs.lemmas.Bool.{ltb-true}
use Rattle.formula.specs.Nodes.{shapes, roots}
use Rattle.formula.specs.Shapes.{shape}
use Rattle.formula.specs.Tables.{Ascending, Ends, Apart}
use Rattle.formula.proofs.Standing.{ascending, ends_there, all_apart}
use Rattle.formula.proofs.nodes.Nodes.with.Goals as goal

-- what is held after one value more found room
grown : {X : Type 0} (b : Bool) (u : Unit {0}) (xs ys zs : List X) → ◌≡◌ {A = Option (Unit {0})} (Some u) (cond b (Some tt) None) → xs ≡ cond b ys zs → xs ≡ ys
grown true u xs ys zs h e = e
grown false u xs ys zs h e = cc

-- and that they are not too many then
fits_more : (u : Unit {0}) (k m n : ℕ) → ◌≡◌ {A = Option (Unit {0})} (Some u) (cond (ltb k n) (Some tt) None) → m ≡ k + 1 → m ≤ n
fits_more u k m n h e = at (ltb k n) refl h
  where
    at : (b : Bool) → ltb k n ≡ b → ◌≡◌ {A = Option (Unit {0})} (Some u) (cond b (Some tt) None) → m ≤ n
    at true t h = omega (arith, ltb-true k n t)
    at false t h = cc

pub invariant_of-result : goal.invariant_of-result
invariant_of-result c =
    let n = c.args.self.now in let ys = map shape c.args.nodes in
    let long : length c.as_slice.result.now ≡ length (map shape c.args.nodes) = ap length c.as_slice.ensures.values ∙ sym (length-map c.args.nodes shape) in
    let e : c.push.new.self ≡ roots c.args.self.now ++ (length (map shape c.args.nodes) - 1) ∷ [] =
    grown _ _ _ _ _ c.in_ok-push.ensures.answer c.in_ok-push.ensures.after ∙ ap (λ k. roots c.args.self.now ++ (k - 1) ∷ []) long in
    record {
      few = omega (arith, c.as_slice.ensures.few);
      few_roots = fits_more _ (length (roots n)) _ 8 c.in_ok-push.ensures.answer (ap length e ∙ length_push (roots n) _);
      ascending = subst Ascending (sym e) (ascending (roots n) (shapes n) ys n.ascending n.ends n.apart c.requires);
      ends = subst (λ rs. Ends rs ys) (sym e) (ends_there (roots n) (shapes n) ys n.ascending n.ends n.apart c.requires);
      apart = subst (λ rs. Apart rs ys) (sym e) (all_apart (roots n) (shapes n) ys n.ascending n.ends n.apart c.requires);
    }
