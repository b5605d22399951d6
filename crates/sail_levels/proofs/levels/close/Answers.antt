use Rattle.std.proofs.Common.{arith}
use Rattle.sail_levels.specs.Counting.{nesting_of}
use Rattle.sail_levels.proofs.Counting.{closed_by, pushed, levels_pushed}
use Rattle.sail_levels.proofs.levels.close.Goals as goal

pub overflow_add-closed : goal.overflow_add-closed
overflow_add-closed c = omega (arith, levels_pushed _ _ _ c.in-Some.ensures, c.requires)

pub overflow_sub-closed : goal.overflow_sub-closed
overflow_sub-closed c = omega (arith, levels_pushed _ _ _ c.in-Some.ensures, c.requires)

pub returns-in-Some-clause-closed : goal.returns-in-Some-clause-closed
returns-in-Some-clause-closed c = closed_by (nesting_of c.args.nesting) _ _ (pushed _ _ _ c.in-Some.ensures)

pub returns-in-Some-clause-total : goal.returns-in-Some-clause-total
returns-in-Some-clause-total c = omega (arith, levels_pushed _ _ _ c.in-Some.ensures, c.requires)
