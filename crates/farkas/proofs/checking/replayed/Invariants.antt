use Rattle.std.proofs.Common.{◌≡◌, drop}
use Rattle.farkas.specs.Validity.{replayed}
use Rattle.farkas.proofs.checking.replayed.Given as goal

abbrev pub invariant-loop-step : goal.invariant-loop-step
invariant-loop-step l = replayed l.rows (drop l.step-index l.steps) ≡ replayed l.fn.first l.steps
