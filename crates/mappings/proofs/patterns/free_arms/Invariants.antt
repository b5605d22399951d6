use Rattle.std.proofs.Common.{◌≡◌, map}
use Rattle.mappings.specs.Rewriting.{free_arm}
use Rattle.mappings.proofs.patterns.free_arms.Given as goal

abbrev pub invariant-loop-arm : goal.invariant-loop-arm
invariant-loop-arm l = l.made ≡ map free_arm l.yielded
