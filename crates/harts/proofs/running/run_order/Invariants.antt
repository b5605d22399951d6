use Rattle.std.proofs.Common.{◌≡◌, ◌%◌, length}
use Rattle.model_state.specs.Folds.{Keeps}
use Rattle.harts.proofs.Events.{RunSoFar}
use Rattle.harts.specs.Schedule.{schedule}
use Rattle.harts.proofs.running.run_order.Given as goal

abbrev pub invariant-loop-steps : goal.invariant-loop-steps
invariant-loop-steps g l = record {
  same : g.P.Stepper.meaning l.stepper ≡ g.P.Stepper.meaning l.fn.stepper;
  keeps : Keeps l.fn.state l.state;
  place : l.place ≡ l.steps % length l.order;
  so_far : RunSoFar (g.P.Stepper.meaning l.fn.stepper) (schedule l.order l.events) l.fn.state l.state l.steps;
}
