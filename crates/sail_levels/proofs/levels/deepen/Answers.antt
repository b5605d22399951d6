use Rattle.std.proofs.Common.{◌∙◌, arith}
use Rattle.sail_levels.specs.Counting.{nesting_of}
use Rattle.sail_levels.proofs.Counting.{deeper_by, pushed, levels_pushed, counted_more}
use Rattle.sail_levels.proofs.levels.deepen.Goals as goal

pub overflow_add-count : goal.overflow_add-count
overflow_add-count c = omega (arith, levels_pushed _ _ _ c.in-Some.ensures, c.requires.total, c.requires.few)

pub returns-in_ok-push-in-Some-clause-deeper : goal.returns-in_ok-push-in-Some-clause-deeper
returns-in_ok-push-in-Some-clause-deeper c =
    deeper_by (nesting_of c.args.nesting) _ _ _ (pushed _ _ _ c.in-Some.ensures)
    (pushed _ _ _ c.in_ok-push-in-Some.ensures.pushed ∙ counted_more c.in-Some.bracket.count c.in-Some.bracket.ends _)

pub returns-in_ok-push-in-Some-clause-total : goal.returns-in_ok-push-in-Some-clause-total
returns-in_ok-push-in-Some-clause-total c =
    omega (arith, levels_pushed _ _ _ c.in-Some.ensures, levels_pushed _ _ _ c.in_ok-push-in-Some.ensures.pushed, c.requires.total)
