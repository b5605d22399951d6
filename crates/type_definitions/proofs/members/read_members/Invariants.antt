use Rattle.std.proofs.Common.{◌≡◌, ◌++◌, drop}
use Rattle.sail_kinds.specs.Failures.{first_failure}
use Rattle.sail_kinds.specs.Scopes.{within}
use Rattle.type_definitions.specs.Defined.{members_failures, fields_of}
use Rattle.type_definitions.proofs.members.read_members.Given as goal

abbrev pub invariant-loop-member : goal.invariant-loop-member
invariant-loop-member l = record {
  failures : first_failure l.first.error (members_failures (within l.scope) (drop l.member-index l.members))
      ≡ first_failure l.initial.first.error (members_failures (within l.scope) l.members);
  fields : l.fields ++ fields_of (within l.scope) (drop l.member-index l.members) ≡ fields_of (within l.scope) l.members;
}
