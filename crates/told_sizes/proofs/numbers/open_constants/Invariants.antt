use Rattle.std.proofs.Common.{◌≡◌, ◌++◌, drop, map}
use Rattle.told_sizes.specs.Exact.{open_of}
use Rattle.told_sizes.proofs.numbers.open_constants.Given as goal

abbrev pub invariant-loop-number : goal.invariant-loop-number
invariant-loop-number l = l.made ++ map open_of (drop l.number-index l.numbers) ≡ map open_of l.numbers
