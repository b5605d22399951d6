use Rattle.std.proofs.Common.{◌≡◌, map}
use Rattle.mappings.specs.Rewriting.{free_pattern}
use Rattle.mappings.proofs.patterns.+free_pattern.Given as goal

abbrev pub invariant-free_patterns-loop-pattern : goal.invariant-free_patterns-loop-pattern
invariant-free_patterns-loop-pattern l = l.made ≡ map free_pattern l.yielded
