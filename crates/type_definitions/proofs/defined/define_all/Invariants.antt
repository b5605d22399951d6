use Rattle.std.proofs.Common.{◌≡◌, drop}
use Rattle.sail_kinds.specs.Failures.{first_failure}
use Rattle.type_definitions.specs.Defined.{held, IsBetween, types_of, types_behind, all_type_failures, type_failures_behind}
use Rattle.type_definitions.proofs.defined.define_all.Given as goal

abbrev pub invariant-loop-definition : goal.invariant-loop-definition
invariant-loop-definition l = record {
  between : IsBetween l.defined;
  types : types_behind (held l.defined) (drop l.definition-index l.definitions) ≡ types_of l.definitions;
  failures : first_failure l.first.error (type_failures_behind (held l.defined) (drop l.definition-index l.definitions))
      ≡ first_failure l.initial.first.error (all_type_failures l.definitions);
}
