use Rattle.std.proofs.Common.{◌≡◌}
use Rattle.size_values.specs.Sizes.{only_open}
use Rattle.size_values.proofs.values.only_open.Given as goal

abbrev pub invariant-loop-index : goal.invariant-loop-index
invariant-loop-index l = l.made ≡ only_open l.chosen l.index
