use Rattle.std.proofs.Common.{◌≡◌, ℕ, Some, None, Err, MatchOption, Option, Result, refl}
use Rattle.std.specs.Option.{ok_or}
use Rattle.std.proofs.lemmas.Bool.{both_ways}
use Rattle.std.proofs.lemmas.Result.{err_from_is_err_and}
use Rattle.base.specs.declared.refusal.Refusal.{Refusal}
use Rattle.base.specs.declared.refusal.Refusal.TheVariants.{Garbled}
use Rattle.aut.specs.Reading.{RightSize}
use Rattle.aut.specs.Front.{FrontEnds, too_large, no_model, refused}
use Rattle.aut.proofs.Apart.{not_ok}
use Rattle.aut.proofs.front.read_front.Goals as goal

-- no model stands at the front
none_there : {P : Type 0} (Q : ℕ → Type 0) (o : Option ℕ) (x : Refusal) → ◌≡◌ {A = Result ℕ Refusal} (Err x) (ok_or o Garbled) → MatchOption o P Q → P × (x ≡ Garbled)
none_there Q None x e h = (h, cc)
none_there Q (Some n) x e h = not_ok _ e

pub returns-then-not-right_size : goal.returns-then-not-right_size
returns-then-not-right_size c =
    (too_large (λ k. both_ways _ c.if-not-right_size.true (c.right_size.ensures.1 k)), record { labels = refl; cells_are = refl })

pub returns-in_err-length : goal.returns-in_err-length
returns-in_err-length c =
    let size : RightSize c.args.longest c.args.slots c.args.input.now = c.right_size.ensures.0 c.if-not-right_size.false in
    let n = none_there _ c.front_length.result c.in_err-length.field-0.0 c.in_err-length.ensures.value c.front_length.ensures in
    let p = err_from_is_err_and c.from_residual.result c.from_residual.ensures.1 in
    rw (p.1, p.2, n.1) (no_model size n.0, record { labels = refl; cells_are = refl })

pub returns-in_err-header : goal.returns-in_err-header
returns-in_err-header c =
    let size : RightSize c.args.longest c.args.slots c.args.input.now = c.right_size.ensures.0 c.if-not-right_size.false in
    let ends : FrontEnds c.args.input.now c.in_ok-length.length = rw c.in_ok-length.ensures.ok_part at c.front_length.ensures in
    let p = err_from_is_err_and c.from_residual-in_err-header.result c.from_residual-in_err-header.ensures.1 in
    rw (p.1, p.2) (refused size ends c.in_err-header.ensures.0, c.in_err-header.ensures.1)

pub returns : goal.returns
returns c = record {
  size = c.right_size.ensures.0 c.if-not-right_size.false;
  ends = rw c.in_ok-length.ensures.ok_part at c.front_length.ensures;
  read = c.in_ok-header.ensures;
}
