use Rattle.std.proofs.Common.{arith}
use Rattle.sail_levels.specs.Counting.{nesting_of}
use Rattle.sail_levels.proofs.Counting.{parted_by, pushed, levels_pushed}
use Rattle.sail_levels.proofs.levels.separate.Goals as goal

pub overflow_sub-parted : goal.overflow_sub-parted
overflow_sub-parted c = omega (arith, levels_pushed _ _ _ c.in-Some.ensures, c.requires)

pub returns-in_ok-push-in-Some-clause-parted : goal.returns-in_ok-push-in-Some-clause-parted
returns-in_ok-push-in-Some-clause-parted c =
    parted_by (nesting_of c.args.nesting) _ _ _ (pushed _ _ _ c.in-Some.ensures) (pushed _ _ _ c.in_ok-push-in-Some.ensures.pushed)

pub returns-in_ok-push-in-Some-clause-total : goal.returns-in_ok-push-in-Some-clause-total
returns-in_ok-push-in-Some-clause-total c =
    omega (arith, levels_pushed _ _ _ c.in-Some.ensures, levels_pushed _ _ _ c.in_ok-push-in-Some.ensures.pushed, c.requires)
