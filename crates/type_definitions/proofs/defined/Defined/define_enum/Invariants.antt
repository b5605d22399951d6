use Rattle.std.proofs.Common.{◌≡◌, ◌++◌, map, drop}
use Rattle.type_definitions.proofs.defined.Defined.define_enum.Given as goal

abbrev pub invariant-loop-member : goal.invariant-loop-member
invariant-loop-member l = l.texts ++ map (λ member. member.text) (drop l.member-index l.members) ≡ map (λ member. member.text) l.members
