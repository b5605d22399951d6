use Rattle.std.proofs.Common.{◌≤◌, length}
use Rattle.elimination_tests.proofs.scripts.played.Given as goal

abbrev pub invariant-loop-step : goal.invariant-loop-step
invariant-loop-step g l = record {
  stands : l.standing ≤ length (g.E.Entail.facts l.entail);
  few : l.standing ≤ l.step-index;
}
