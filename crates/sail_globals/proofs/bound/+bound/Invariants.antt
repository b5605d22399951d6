use Rattle.std.proofs.Common.{◌≡◌, ◌++◌, map, drop}
use Rattle.sail_syntax.specs.Bound.{in_order}
use Rattle.sail_globals.specs.Bound.{bound, bound_by_joined}
use Rattle.sail_globals.specs.Held.{has_member}
use Rattle.sail_globals.proofs.bound.+bound.Given as goal

-- what the patterns that are left bind completes the list
abbrev pub invariant-push_all_bound-loop-pattern : goal.invariant-push_all_bound-loop-pattern
invariant-push_all_bound-loop-pattern l =
    l.list ++ in_order (map (bound (has_member l.members)) (drop l.pattern-index l.patterns))
    ≡ l.initial.list ++ in_order (map (bound (has_member l.members)) l.patterns)

abbrev pub invariant-push_joined_bound-loop-joined : goal.invariant-push_joined_bound-loop-joined
invariant-push_joined_bound-loop-joined l =
    l.list ++ in_order (map (bound_by_joined (has_member l.members)) (drop l.joined-index l.parts))
    ≡ l.initial.list ++ in_order (map (bound_by_joined (has_member l.members)) l.parts)
