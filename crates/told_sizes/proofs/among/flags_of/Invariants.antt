use Rattle.std.proofs.Common.{◌≡◌, ◌++◌, drop, map}
use Rattle.size_values.specs.Numbers.{meant}
use Rattle.told_sizes.specs.Among.{flag_of, has_in}
use Rattle.told_sizes.proofs.among.flags_of.Given as goal

abbrev pub invariant-loop-index : goal.invariant-loop-index
invariant-loop-index l =
    l.made ++ map (flag_of (has_in (meant l.variables))) (drop l.index-index l.indices) ≡ map (flag_of (has_in (meant l.variables))) l.indices
