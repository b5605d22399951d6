use Rattle.std.proofs.Common.{◌≡◌, ◌++◌, map, drop}
use Rattle.shape_rules.specs.Calls.{member_candidate}
use Rattle.shape_calls.proofs.setters.push_members.Given as goal

abbrev pub invariant-loop-member : goal.invariant-loop-member
invariant-loop-member l = l.callees ++ map member_candidate (drop l.member-index l.members) ≡ l.initial.callees ++ map member_candidate l.members
