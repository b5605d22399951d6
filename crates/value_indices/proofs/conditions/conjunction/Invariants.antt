use Rattle.std.proofs.Common.{◌≡◌, length}
use Rattle.std.specs.Vec.Iter.{into_iter_items, into_iter_len}
use Rattle.sail_types.specs.Readings.{behind, together}
use Rattle.value_indices.proofs.conditions.conjunction.Given as goal

-- the rest makes up all of them
abbrev pub invariant-loop-condition : goal.invariant-loop-condition
invariant-loop-condition l = record {
  known : into_iter_len l.condition-iterator ≡ length (into_iter_items l.condition-iterator);
  all : behind l.parts (together (into_iter_items l.condition-iterator)) ≡ together l.fn.conditions;
}
