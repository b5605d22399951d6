use Rattle.std.proofs.Common.{◌≡◌, length}
use Rattle.std.specs.Vec.Iter.{into_iter_items, into_iter_len}
use Rattle.value_indices.specs.Steps.{assume_all}
use Rattle.value_indices.specs.Walking.{run, seen}
use Rattle.value_indices.proofs.walking.Walking.assume_all.Given as goal

-- the rest makes up all of them
abbrev pub invariant-loop-condition : goal.invariant-loop-condition
invariant-loop-condition l = record {
  known : into_iter_len l.condition-iterator ≡ length (into_iter_items l.condition-iterator);
  assumed : run (assume_all (into_iter_items l.condition-iterator)) (seen l.self) ≡ run (assume_all l.fn.conditions) (seen l.initial.self);
}
