use Rattle.std.proofs.Common.{◌≡◌, map}
use Rattle.match_rewrite.specs.Rewriting.{flat_arm}
use Rattle.match_rewrite.proofs.arms.flat_arms.Given as goal

abbrev pub invariant-loop-arm : goal.invariant-loop-arm
invariant-loop-arm l = l.made ≡ map flat_arm l.yielded
