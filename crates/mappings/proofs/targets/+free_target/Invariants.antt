use Rattle.std.proofs.Common.{◌≡◌, map}
use Rattle.mappings.specs.Rewriting.{free_target}
use Rattle.mappings.proofs.targets.+free_target.Given as goal

abbrev pub invariant-free_targets-loop-target : goal.invariant-free_targets-loop-target
invariant-free_targets-loop-target l = l.made ≡ map free_target l.yielded
