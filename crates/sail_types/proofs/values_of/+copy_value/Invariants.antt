use Rattle.std.proofs.Common.{◌≡◌, drop, ◌++◌}
use Rattle.sail_types.proofs.values_of.+copy_value.Given as goal

abbrev pub invariant-copy_values-loop-value : goal.invariant-copy_values-loop-value
invariant-copy_values-loop-value l = l.copies ++ drop l.value-index l.values ≡ l.values
