use Rattle.std.proofs.Common.{◌≡◌, ◌++◌, map, drop}
use Rattle.sail_syntax.specs.Bound.{names, names_of_joined, in_order}
use Rattle.sail_syntax.proofs.names.+names.Given as goal

-- the names of the patterns that are left complete the list
abbrev pub invariant-push_all_names-loop-pattern : goal.invariant-push_all_names-loop-pattern
invariant-push_all_names-loop-pattern l =
    l.list ++ in_order (map names (drop l.pattern-index l.patterns)) ≡ l.initial.list ++ in_order (map names l.patterns)

abbrev pub invariant-push_joined_names-loop-joined : goal.invariant-push_joined_names-loop-joined
invariant-push_joined_names-loop-joined l =
    l.list ++ in_order (map names_of_joined (drop l.joined-index l.parts)) ≡ l.initial.list ++ in_order (map names_of_joined l.parts)
