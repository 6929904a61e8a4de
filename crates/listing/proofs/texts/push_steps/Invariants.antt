use Rattle.std.proofs.Common.{◌≡◌, ◌++◌, drop}
use Rattle.search.specs.Quests.{steps_of}
use Rattle.listing.specs.Texts.{steps_text}
use Rattle.listing.proofs.texts.push_steps.Given as goal

abbrev pub invariant-loop-step : goal.invariant-loop-step
invariant-loop-step l = record {
  written : l.out.items ++ steps_text l.labels (steps_of (drop l.step-index l.steps))
      ≡ l.initial.out.items ++ steps_text l.labels (steps_of l.steps);
}
