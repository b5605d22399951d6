use Rattle.std.proofs.Common.{◌≡◌, map}
use Rattle.core_numbers.specs.Numbers.{each_numbered, suffix_numbered}
use Rattle.core_numbers.proofs.targets.number_suffixes.Given as goal

abbrev pub invariant-loop-suffix : goal.invariant-loop-suffix
invariant-loop-suffix l = record {
  made : l.made ≡ (each_numbered (map suffix_numbered l.yielded) l.initial.next).it;
  next : l.next ≡ (each_numbered (map suffix_numbered l.yielded) l.initial.next).next;
}
