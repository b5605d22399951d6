use Rattle.std.proofs.Common.{◌≡◌, drop, ◌++◌}
use Rattle.size_values.proofs.constants.copy_constants.Given as goal

abbrev pub invariant-loop-constant : goal.invariant-loop-constant
invariant-loop-constant l = l.copies ++ drop l.constant-index l.constants ≡ l.constants
