use Rattle.std.proofs.Common.{◌≡◌, map}
use Rattle.mappings.specs.Rewriting.{free_opening}
use Rattle.mappings.proofs.model.free_openings.Given as goal

abbrev pub invariant-loop-opening : goal.invariant-loop-opening
invariant-loop-opening l = l.made ≡ map free_opening l.yielded
