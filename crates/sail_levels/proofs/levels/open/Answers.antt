use Rattle.std.proofs.Common.{ap, arith}
use Rattle.std.specs.Prelude.{not}
use Rattle.sail_levels.specs.Counting.{nesting_of}
use Rattle.sail_levels.proofs.Counting.{opened_by, pushed, levels_pushed}
use Rattle.sail_levels.proofs.levels.open.Goals as goal

pub returns-clause-opened : goal.returns-clause-opened
returns-clause-opened c = opened_by (nesting_of c.args.nesting) _ _ (pushed _ _ _ c.in_ok-push.ensures.pushed) (ap not c.awaits-ends.ensures)

pub returns-clause-total : goal.returns-clause-total
returns-clause-total c = omega (arith, levels_pushed _ _ _ c.in_ok-push.ensures.pushed, c.requires.total)
