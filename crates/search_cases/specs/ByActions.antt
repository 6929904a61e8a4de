-- An operator whose parts are sets of actions.
use Rattle.std.specs.Prelude.{false, get_or}
use Rattle.base.specs.Sets.{holds}
use Rattle.meaning.specs.Formula.{Quantifier, E, A, Temporal, U, W}
use Rattle.search.specs.Operators.{PathOperator}
use Rattle.search_cases.specs.declared.by_actions.ByActions.{ByActions}
use Rattle.search_cases.specs.declared.by_actions.Kind.{Kind}
use Rattle.search_cases.specs.declared.by_actions.Kind.TheVariants as kind

abbrev pub quantifier : Kind → Quantifier
quantifier kind.ExistsUntil = E
quantifier kind.ExistsUnless = E
quantifier kind.AllUntil = A
quantifier kind.AllUnless = A

abbrev pub temporal : Kind → Temporal
temporal kind.ExistsUntil = U
temporal kind.ExistsUnless = W
temporal kind.AllUntil = U
temporal kind.AllUnless = W

abbrev pub operator_of : ByActions → PathOperator
operator_of x = record {
  quantifier = quantifier x.kind;
  temporal = temporal x.kind;
  first = λ a t. holds x.first a;
  second = λ a t. holds x.second a;
  shows = λ s. get_or x.shown.now s false;
}
