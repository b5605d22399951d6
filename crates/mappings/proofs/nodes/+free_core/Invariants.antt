use Rattle.std.proofs.Common.{◌≡◌, map}
use Rattle.mappings.specs.Rewriting.{free_core}
use Rattle.mappings.proofs.nodes.+free_core.Given as goal

abbrev pub invariant-free_cores-loop-core : goal.invariant-free_cores-loop-core
invariant-free_cores-loop-core l = l.made ≡ map free_core l.yielded
