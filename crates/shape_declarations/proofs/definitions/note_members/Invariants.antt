use Rattle.std.proofs.Common.{◌≡◌, drop}
use Rattle.sail_kinds.specs.Scopes.{within}
use Rattle.shape_rules.specs.Findings.{first_failure}
use Rattle.shape_declarations.specs.Failures.{members_faults}
use Rattle.shape_declarations.proofs.definitions.note_members.Given as goal

abbrev pub invariant-loop-member : goal.invariant-loop-member
invariant-loop-member l = first_failure l.first.error (members_faults (within l.scope) (drop l.member-index l.members))
    ≡ first_failure l.initial.first.error (members_faults (within l.scope) l.members)
