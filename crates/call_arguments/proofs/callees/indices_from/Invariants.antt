use Rattle.std.proofs.Common.{◌≡◌, ◌++◌, drop}
use Rattle.value_indices.specs.Walking.{got, run, seen}
use Rattle.call_arguments.specs.Callees.{indices_from, number_parameters}
use Rattle.call_arguments.proofs.callees.indices_from.Given as goal

abbrev pub invariant-loop-parameter : goal.invariant-loop-parameter
invariant-loop-parameter l =
    let rest = indices_from l.variable (number_parameters (drop l.parameter-index l.parameters)) l.types l.arguments in
    let all = indices_from 0 (number_parameters l.parameters) l.types l.arguments in
    record {
      value : l.made ++ got rest (seen l.walking) ≡ got all (seen l.fn.walking);
      walked : run rest (seen l.walking) ≡ run all (seen l.fn.walking);
    }
