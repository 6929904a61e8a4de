-- The grammar and the reader's way through the tokens agree, so a text is a formula in one way only.
use Rattle.std.proofs.Common.{◌≡◌, sym, ap, ◌∙◌}
use Rattle.std.proofs.lemmas.Option.{same_Some}
use Rattle.formula.specs.Reading.{tree_of}
use Rattle.formula.specs.Agreement.{Agreement, OneReading}
use Rattle.formula.proofs.Complete.{tree_in}
use Rattle.formula.proofs.Sound.{tree_out}

pub agreement : Agreement
agreement ts t = (tree_out ts t, tree_in ts t)

pub one_reading : OneReading
one_reading text t u a b =
    let e : a.tokens ≡ b.tokens = same_Some _ _ (sym a.lexed ∙ b.lexed) in
    same_Some _ _ (sym (tree_in a.tokens t a.whole) ∙ ap tree_of e ∙ tree_in b.tokens u b.whole)
