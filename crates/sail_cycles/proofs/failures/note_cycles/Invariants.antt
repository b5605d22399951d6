use Rattle.std.proofs.Common.{◌≡◌, drop}
use Rattle.sail_kinds.specs.Failures.{first_failure}
use Rattle.sail_names.specs.Known.{known_of}
use Rattle.sail_cycles.specs.Cycles.{all_cycle_failures, is_cyclic_at}
use Rattle.sail_cycles.proofs.failures.note_cycles.Given as goal

abbrev pub invariant-loop-definition : goal.invariant-loop-definition
invariant-loop-definition l =
    first_failure l.first.error (all_cycle_failures l.definitions (known_of l.names) (is_cyclic_at l.calls) (is_cyclic_at l.patterns)
    (drop l.definition-index l.definitions))
    ≡ first_failure l.initial.first.error
    (all_cycle_failures l.definitions (known_of l.names) (is_cyclic_at l.calls) (is_cyclic_at l.patterns) l.definitions)
