use Rattle.std.proofs.Common.{◌≡◌, map}
use Rattle.core_numbers.specs.Numbers.{each_numbered, numbered}
use Rattle.core_numbers.proofs.trees.+number.Given as goal

abbrev pub invariant-number_all-loop-core : goal.invariant-number_all-loop-core
invariant-number_all-loop-core l = record {
  made : l.made ≡ (each_numbered (map numbered l.yielded) l.initial.next).it;
  next : l.next ≡ (each_numbered (map numbered l.yielded) l.initial.next).next;
}
