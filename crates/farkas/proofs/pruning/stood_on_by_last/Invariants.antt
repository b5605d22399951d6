use Rattle.std.proofs.Common.{◌≡◌, ◌≤◌, ◌+◌, ◌++◌, drop}
use Rattle.farkas.specs.Pruning.{pruned, stood_on}
use Rattle.farkas.proofs.pruning.stood_on_by_last.Given as goal

abbrev pub invariant-loop-step : goal.invariant-loop-step
invariant-loop-step l = record {
  small : l.before ≤ l.count + l.step-index;
  same : l.kept ++ pruned l.marks l.numbers l.before (drop l.step-index l.steps) ≡ stood_on l.count l.steps;
}
