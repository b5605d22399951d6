use Rattle.core_numbers.specs.Numbers.{target_numbered}
use Rattle.core_numbers.proofs.Steps.{made_behind, next_behind}
use Rattle.core_numbers.proofs.targets.+number_target.Goals as goal

pub number_targets-loop-target-preserved : goal.number_targets-loop-target-preserved
number_targets-loop-target-preserved t c =
    let l = c.loop-target in record {
      made = made_behind target_numbered l.yielded c.in-Some.target c.args.next.now l.made c.push.new.self l.next c.in_ok-number_target.field-0
          l.invariant.made l.invariant.next c.in_ok-number_target.ensures.made c.in_ok-push.ensures.pushed;
      next = next_behind target_numbered l.yielded c.in-Some.target c.args.next.now l.next c.number_target.new.next l.invariant.next c.in_ok-number_target.ensures.next;
    }
