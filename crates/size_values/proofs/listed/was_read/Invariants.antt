use Rattle.std.proofs.Common.{◌≡◌, drop}
use Rattle.size_values.specs.Sizes.{was_read}
use Rattle.size_values.proofs.listed.was_read.Given as goal

abbrev pub invariant-loop-applied : goal.invariant-loop-applied
invariant-loop-applied l = was_read l.place l.arguments (drop l.applied-index l.read) ≡ was_read l.place l.arguments l.read
