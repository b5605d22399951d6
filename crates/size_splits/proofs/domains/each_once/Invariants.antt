use Rattle.std.proofs.Common.{◌≡◌, [], drop}
use Rattle.size_splits.specs.Splits.{once_more}
use Rattle.size_splits.proofs.domains.each_once.Given as goal

abbrev pub invariant-loop-integer : goal.invariant-loop-integer
invariant-loop-integer l = once_more l.made (drop l.integer-index l.integers) ≡ once_more [] l.integers
