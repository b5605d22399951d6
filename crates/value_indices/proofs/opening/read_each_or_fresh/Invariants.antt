use Rattle.std.proofs.Common.{◌≡◌, ◌++◌, drop}
use Rattle.value_indices.specs.Opening.{each_read}
use Rattle.value_indices.specs.Walking.{got, run, seen}
use Rattle.value_indices.proofs.opening.read_each_or_fresh.Given as goal

-- the rest makes up all of them
abbrev pub invariant-loop-argument : goal.invariant-loop-argument
invariant-loop-argument l = record {
  value : l.made ++ got (each_read l.indices (drop l.argument-index l.arguments)) (seen l.walked)
      ≡ got (each_read l.indices l.arguments) (seen l.initial.walked);
  walked : run (each_read l.indices (drop l.argument-index l.arguments)) (seen l.walked) ≡ run (each_read l.indices l.arguments) (seen l.initial.walked);
}
