use Rattle.std.proofs.Common.{◌≡◌, drop, map}
use Rattle.shape_rules.specs.Calls.{chosen, member_candidate}
use Rattle.shape_calls.proofs.choosing.pick_member.Given as goal

abbrev pub invariant-loop-member : goal.invariant-loop-member
invariant-loop-member l = chosen (map member_candidate (drop l.member-index l.members)) l.shapes ≡ chosen (map member_candidate l.members) l.shapes
