use Rattle.std.proofs.Common.{◌≡◌, drop}
use Rattle.size_splits.specs.Reading.{named_in}
use Rattle.size_splits.proofs.opened.named_in.Given as goal

abbrev pub invariant-loop-step : goal.invariant-loop-step
invariant-loop-step l = named_in (drop l.step-index l.steps) ≡ named_in l.steps
