use Rattle.std.proofs.Common.{◌≡◌, length}
use Rattle.std.specs.Vec.Iter.{into_iter_items, into_iter_len}
use Rattle.sail_types.specs.Readings.{behind, together}
use Rattle.value_fits.proofs.premises.all_said.Given as goal

-- what is left makes up what there was
abbrev pub invariant-loop-condition : goal.invariant-loop-condition
invariant-loop-condition l = record {
  known : into_iter_len l.condition-iterator ≡ length (into_iter_items l.condition-iterator);
  said : behind l.made (together (into_iter_items l.condition-iterator)) ≡ together l.fn.conditions;
}
