use Rattle.std.proofs.Common.{◌≡◌, take, drop}
use Rattle.shape_rules.specs.Findings.{first_failure}
use Rattle.shape_models.specs.Models.{candidates}
use Rattle.shape_models.specs.Overloads.{clashes_behind, overload_faults}
use Rattle.shape_models.proofs.clashes.note_clashes.Given as goal

abbrev pub invariant-loop-at : goal.invariant-loop-at
invariant-loop-at l = first_failure l.first.error (clashes_behind (candidates (take l.at l.members)) (drop l.at l.members))
    ≡ first_failure l.initial.first.error (overload_faults l.members)
