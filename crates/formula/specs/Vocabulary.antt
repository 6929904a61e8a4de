-- The names that a text may use.
use Rattle.std.specs.Prelude.{ℕ, List}
use Rattle.formula.specs.declared.names.Names.{Names}

-- the labels, each at the number of its action
pub record Vocabulary : Type 0 where
  pub labels : List (List ℕ)

-- no other names than labels
abbrev pub by_labels : List (List ℕ) → Vocabulary
by_labels names = record { labels = names }

-- the names that the reader holds
abbrev pub vocabulary : Names → Vocabulary
vocabulary n = by_labels n.labels.now
