use Rattle.std.proofs.Common.{◌≡◌, drop, ◌++◌}
use Rattle.value_indices.specs.Walking.{got, run, seen}
use Rattle.wide_types.specs.Widening.{fresh_indices}
use Rattle.wide_types.proofs.widest.fresh_indices.Given as goal

abbrev pub invariant-loop-parameter : goal.invariant-loop-parameter
invariant-loop-parameter l = record {
  value : l.made ++ got (fresh_indices (drop l.parameter-index l.parameters)) (seen l.walked) ≡ got (fresh_indices l.parameters) (seen l.fn.walked);
  walked : run (fresh_indices (drop l.parameter-index l.parameters)) (seen l.walked) ≡ run (fresh_indices l.parameters) (seen l.fn.walked);
}
