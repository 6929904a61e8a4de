use Rattle.formula.proofs.LongestRuns as runs
use Rattle.formula.proofs.agree.longest_runs.Goals as goal

pub returns : goal.returns
returns c = runs.longest_runs
