use Rattle.std.proofs.Common.{◌≡◌, drop}
use Rattle.shape_rules.specs.Findings.{first_failure}
use Rattle.shape_models.specs.Models.{named_faults}
use Rattle.shape_models.proofs.overloads.note_named.Given as goal

abbrev pub invariant-loop-overload : goal.invariant-loop-overload
invariant-loop-overload l = first_failure l.first.error (named_faults (drop l.overload-index l.named))
    ≡ first_failure l.initial.first.error (named_faults l.named)
