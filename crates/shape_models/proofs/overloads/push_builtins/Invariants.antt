use Rattle.std.proofs.Common.{◌≡◌, ◌++◌, map, drop}
use Rattle.shape_rules.specs.Calls.{member_candidate}
use Rattle.shape_models.specs.Overloads.{placed}
use Rattle.shape_models.proofs.overloads.push_builtins.Given as goal

abbrev pub invariant-loop-member : goal.invariant-loop-member
invariant-loop-member l = l.added ++ map (placed l.place) (map member_candidate (drop l.member-index l.members))
    ≡ l.initial.added ++ map (placed l.place) (map member_candidate l.members)
