use Rattle.std.proofs.Common.{◌≡◌, ◌≤◌, length, drop}
use Rattle.base.specs.Listing.{with_names}
use Rattle.base.specs.Labels.{tau_with}
use Rattle.base.proofs.labels.Labels.from_names.Given as goal

abbrev pub invariant-loop-name : goal.invariant-loop-name
invariant-loop-name l = (tau_with l.names ≡ with_names l.labels (drop l.name-index l.names)) × (length l.labels ≤ 64)
