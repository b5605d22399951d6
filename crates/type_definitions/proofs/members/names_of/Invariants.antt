use Rattle.std.proofs.Common.{◌≡◌, ◌++◌, drop}
use Rattle.type_definitions.specs.Defined.{member_names}
use Rattle.type_definitions.proofs.members.names_of.Given as goal

abbrev pub invariant-loop-member : goal.invariant-loop-member
invariant-loop-member l = l.names ++ member_names (drop l.member-index l.members) ≡ member_names l.members
