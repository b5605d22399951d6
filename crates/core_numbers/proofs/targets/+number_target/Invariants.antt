use Rattle.std.proofs.Common.{◌≡◌, map}
use Rattle.core_numbers.specs.Numbers.{each_numbered, target_numbered}
use Rattle.core_numbers.proofs.targets.+number_target.Given as goal

abbrev pub invariant-number_targets-loop-target : goal.invariant-number_targets-loop-target
invariant-number_targets-loop-target l = record {
  made : l.made ≡ (each_numbered (map target_numbered l.yielded) l.initial.next).it;
  next : l.next ≡ (each_numbered (map target_numbered l.yielded) l.initial.next).next;
}
