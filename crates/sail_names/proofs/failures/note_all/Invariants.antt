use Rattle.std.proofs.Common.{◌≡◌}
use Rattle.sail_kinds.specs.Failures.{first_failure}
use Rattle.sail_names.proofs.failures.note_all.Given as goal

abbrev pub invariant-loop-failure : goal.invariant-loop-failure
invariant-loop-failure l = l.first.error ≡ first_failure l.initial.first.error l.yielded
