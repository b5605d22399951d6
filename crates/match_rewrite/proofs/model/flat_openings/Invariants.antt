use Rattle.std.proofs.Common.{◌≡◌, map}
use Rattle.match_rewrite.specs.Rewriting.{flat_opening}
use Rattle.match_rewrite.proofs.model.flat_openings.Given as goal

abbrev pub invariant-loop-opening : goal.invariant-loop-opening
invariant-loop-opening l = l.made ≡ map flat_opening l.yielded
