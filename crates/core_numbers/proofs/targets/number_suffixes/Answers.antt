use Rattle.core_numbers.specs.Numbers.{suffix_numbered}
use Rattle.core_numbers.proofs.Steps.{made_behind, next_behind}
use Rattle.core_numbers.proofs.targets.number_suffixes.Goals as goal

pub loop-suffix-preserved : goal.loop-suffix-preserved
loop-suffix-preserved c =
    let l = c.loop-suffix in record {
      made = made_behind suffix_numbered l.yielded c.in-Some.suffix c.args.next.now l.made c.push.new.self l.next c.in_ok-number_suffix.field-0
          l.invariant.made l.invariant.next c.in_ok-number_suffix.ensures.made c.in_ok-push.ensures.pushed;
      next = next_behind suffix_numbered l.yielded c.in-Some.suffix c.args.next.now l.next c.number_suffix.new.next l.invariant.next c.in_ok-number_suffix.ensures.next;
    }
