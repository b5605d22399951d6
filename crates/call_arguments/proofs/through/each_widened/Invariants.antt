use Rattle.std.proofs.Common.{◌≡◌, ◌++◌, drop}
use Rattle.call_arguments.specs.Aims.{each_widened}
use Rattle.call_arguments.proofs.through.each_widened.Given as goal

abbrev pub invariant-loop-value : goal.invariant-loop-value
invariant-loop-value l = l.made ++ each_widened (drop l.value-index l.values) ≡ each_widened l.values
