use Rattle.std.proofs.Common.{◌≡◌, ◌+◌, drop}
use Rattle.size_splits.specs.Sizing.{count_variables}
use Rattle.size_splits.proofs.sizing.count_variables.Given as goal

abbrev pub invariant-loop-function : goal.invariant-loop-function
invariant-loop-function l = l.count + count_variables (drop l.function-index l.functions) ≡ count_variables l.functions
