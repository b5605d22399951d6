use Rattle.std.proofs.Common.{◌≡◌, ◌+◌, ◌*◌, ◌++◌, length}
use Rattle.std.specs.Prelude.{option_map}
use Rattle.std.specs.Vec.Iter.{into_iter_items, into_iter_len}
use Rattle.sail_parse_expr.specs.TargetLists.{all_targets}
use Rattle.sail_parse_expr.proofs.targets.+target_of.Given as goal

-- the depth; at the same depth the function that reads a list stands above the one that reads its parts
abbrev pub decreases-target_of : goal.decreases-target_of
decreases-target_of l = 3 * goal.size-target_of l

abbrev pub decreases-to_part : goal.decreases-to_part
decreases-to_part l = 3 * goal.size-to_part l + 1

abbrev pub decreases-to_targets : goal.decreases-to_targets
decreases-to_targets l = 3 * goal.size-to_targets l + 1

abbrev pub decreases-to_tuple : goal.decreases-to_tuple
decreases-to_tuple l = 3 * goal.size-to_tuple l + 2

-- the targets of the expressions that are left complete the list
abbrev pub invariant-to_targets-loop-part : goal.invariant-to_targets-loop-part
invariant-to_targets-loop-part l = record {
  known : into_iter_len l.part-iterator ≡ length (into_iter_items l.part-iterator);
  left : l.yielded ++ into_iter_items l.part-iterator ≡ l.fn.parts;
  all : option_map (λ more. l.list ++ more) (all_targets (into_iter_items l.part-iterator)) ≡ all_targets l.fn.parts;
}
