use Rattle.core_numbers.specs.Numbers.{numbered}
use Rattle.core_numbers.proofs.Steps.{made_behind, next_behind}
use Rattle.core_numbers.proofs.trees.+number.Goals as goal

pub number_all-loop-core-preserved : goal.number_all-loop-core-preserved
number_all-loop-core-preserved t c =
    let l = c.loop-core in record {
      made = made_behind numbered l.yielded c.in-Some.core c.args.next.now l.made c.push.new.self l.next c.in_ok-number_nodes.field-0
          l.invariant.made l.invariant.next c.in_ok-number_nodes.ensures.made c.in_ok-push.ensures.pushed;
      next = next_behind numbered l.yielded c.in-Some.core c.args.next.now l.next c.number_nodes.new.next l.invariant.next c.in_ok-number_nodes.ensures.next;
    }
