use Rattle.jib_lower.specs.Lowerable.{direction_left, instance_left}
use Rattle.jib_lower.proofs.Unmade.{exit_more}
use Rattle.jib_lower.proofs.lowering.make_functions.Goals as goal

pub returns-clause-made : goal.returns-clause-made
returns-clause-made c = record {
  ways = c.in_ok-functions.functions;
  directions = c.in_ok-functions.ensures.made;
  called = c.in_ok-called.called;
  instances = c.in_ok-called.ensures.made;
  all = c.in_ok-push_all.ensures;
}

pub returns-in_err-functions-clause-left : goal.returns-in_err-functions-clause-left
returns-in_err-functions-clause-left c = exit_more _ _ c.from_residual.ensures.1 direction_left c.in_err-functions.ensures.left

pub returns-in_err-called-clause-left : goal.returns-in_err-called-clause-left
returns-in_err-called-clause-left c = exit_more _ _ c.from_residual-in_err-called.ensures.1 instance_left c.in_err-called.ensures.left
