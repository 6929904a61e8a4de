use Rattle.std.proofs.Common.{Some, sym, ap, ◌∙◌}
use Rattle.std.proofs.lemmas.Bool.{cond-true}
use Rattle.base.specs.Names.{is_name}
use Rattle.base.proofs.Listed.{name-fits}
use Rattle.base.proofs.name.Name.new.Goals as goal

pub invariant_of-result : goal.invariant_of-result
invariant_of-result c =
    let is = sym c.if-not-is_name.ensures in ap is_name (c.from_slice.ensures ∙ name-fits c.args.text.now is) ∙ is

pub returns : goal.returns
returns c =
    let is = sym c.if-not-is_name.ensures in ap Some (c.from_slice.ensures ∙ name-fits c.args.text.now is) ∙ sym (cond-true _ _ _ is)
