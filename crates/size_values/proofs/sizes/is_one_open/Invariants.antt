use Rattle.std.proofs.Common.{◌≡◌, drop}
use Rattle.size_values.specs.Sizes.{is_one_open}
use Rattle.size_values.proofs.sizes.is_one_open.Given as goal

abbrev pub invariant-loop-size : goal.invariant-loop-size
invariant-loop-size l = is_one_open (drop l.size-index l.sizes) ≡ is_one_open l.sizes
