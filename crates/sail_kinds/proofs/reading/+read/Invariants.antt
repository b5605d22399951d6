use Rattle.std.proofs.Common.{◌≡◌, ◌+◌, ◌*◌, drop, map, option_map}
use Rattle.std.specs.List.{zip}
use denote.Param.Weighed.{most}
use Rattle.sail_syntax.proofs.types.TyExp.TheLaws.{the_size}
use Rattle.sail_types.specs.Readings.{together}
use Rattle.sail_kinds.specs.Failures.{first_failure}
use Rattle.sail_kinds.specs.Scopes.{within}
use Rattle.sail_kinds.specs.Normal.{part, part_of_kind, typ_part, failures_of_all}
use Rattle.sail_kinds.proofs.Parts.{kept_behind, split, split_behind}
use Rattle.sail_kinds.proofs.reading.+read.Given as goal

abbrev pub decreases-read : goal.decreases-read
decreases-read l = 6 * the_size l.typ.now

abbrev pub decreases-read_as : goal.decreases-read_as
decreases-read_as l = 6 * the_size l.typ.now + 1

abbrev pub decreases-read_number : goal.decreases-read_number
decreases-read_number l = 6 * the_size l.typ.now + 2

abbrev pub decreases-read_constraint : goal.decreases-read_constraint
decreases-read_constraint l = 6 * the_size l.typ.now + 2

abbrev pub decreases-read_typ : goal.decreases-read_typ
decreases-read_typ l = 6 * the_size l.typ.now + 2

abbrev pub decreases-read_prefix : goal.decreases-read_prefix
decreases-read_prefix l = 6 * the_size l.operand.now + 3

abbrev pub decreases-read_types : goal.decreases-read_types
decreases-read_types l = 6 * most the_size l.parts.now + 3

abbrev pub decreases-read_arguments : goal.decreases-read_arguments
decreases-read_arguments l = 6 * most the_size l.arguments.now + 3

abbrev pub decreases-read_applied : goal.decreases-read_applied
decreases-read_applied l = 6 * most the_size l.arguments.now + 4

abbrev pub decreases-read_name : goal.decreases-read_name
decreases-read_name l = 6 * most the_size l.arguments.now + 5

abbrev pub invariant-read_types-loop-part : goal.invariant-read_types-loop-part
invariant-read_types-loop-part l = record {
  failures : first_failure l.first.error (failures_of_all (map (typ_part (within l.scope)) (map part (drop l.part-index l.parts))))
      ≡ first_failure l.fn.first.error (failures_of_all (map (typ_part (within l.scope)) (map part l.parts)));
  types : kept_behind l.is_whole l.types (together (map (λ r. r.normal) (map (typ_part (within l.scope)) (map part (drop l.part-index l.parts)))))
      ≡ together (map (λ r. r.normal) (map (typ_part (within l.scope)) (map part l.parts)));
}

abbrev pub invariant-read_arguments-loop-index : goal.invariant-read_arguments-loop-index
invariant-read_arguments-loop-index l = record {
  failures : first_failure l.first.error
      (failures_of_all (map (λ pair. part_of_kind (within l.scope) pair.0 pair.1) (zip (drop l.index l.kinds) (map part (drop l.index l.arguments)))))
      ≡ first_failure l.fn.first.error (failures_of_all (map (λ pair. part_of_kind (within l.scope) pair.0 pair.1) (zip l.kinds (map part l.arguments))));
  arguments : split_behind l.is_whole l.indices l.types
      (together (map (λ r. r.normal) (map (λ pair. part_of_kind (within l.scope) pair.0 pair.1) (zip (drop l.index l.kinds) (map part (drop l.index l.arguments))))))
      ≡ option_map split (together (map (λ r. r.normal) (map (λ pair. part_of_kind (within l.scope) pair.0 pair.1) (zip l.kinds (map part l.arguments)))));
}
