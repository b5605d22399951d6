use Rattle.std.proofs.Common.{◌≡◌, map}
use Rattle.match_rewrite.specs.Rewriting.{flat_function}
use Rattle.match_rewrite.proofs.model.flat_functions.Given as goal

abbrev pub invariant-loop-function : goal.invariant-loop-function
invariant-loop-function l = l.made ≡ map flat_function l.yielded
