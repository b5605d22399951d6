use Rattle.std.proofs.Common.{◌≡◌, ◌++◌, drop}
use Rattle.value_indices.specs.Walking.{got, run, seen}
use Rattle.function_notes.specs.Functions.{own_indices}
use Rattle.function_notes.proofs.functions.own_indices.Given as goal

abbrev pub invariant-loop-own : goal.invariant-loop-own
invariant-loop-own l = record {
  value : l.made ++ got (own_indices (drop l.own-index l.variables)) (seen l.walking) ≡ got (own_indices l.variables) (seen l.initial.walking);
  walked : run (own_indices (drop l.own-index l.variables)) (seen l.walking) ≡ run (own_indices l.variables) (seen l.initial.walking);
}
