use Rattle.std.proofs.Common.{◌≡◌, map}
use Rattle.match_rewrite.specs.Rewriting.{flat_core}
use Rattle.match_rewrite.proofs.nodes.+flat_core.Given as goal

abbrev pub invariant-flat_cores-loop-core : goal.invariant-flat_cores-loop-core
invariant-flat_cores-loop-core l = l.made ≡ map flat_core l.yielded
