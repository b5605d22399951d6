use Rattle.std.proofs.Common.{◌≡◌, ◌++◌, map, drop}
use Rattle.sail_names.specs.Known.{known_of}
use Rattle.sail_names.specs.Patterns.{joined}
use Rattle.sail_cycles.specs.Callees as spec
use Rattle.sail_cycles.proofs.expressions.+pattern_callees.Given as goal

abbrev pub invariant-push_patterns_callees-loop-pattern : goal.invariant-push_patterns_callees-loop-pattern
invariant-push_patterns_callees-loop-pattern l = l.list ++ joined (map (spec.pattern_callees (known_of l.names)) (drop l.pattern-index l.patterns))
    ≡ l.initial.list ++ joined (map (spec.pattern_callees (known_of l.names)) l.patterns)

abbrev pub invariant-push_joined_callees-loop-further : goal.invariant-push_joined_callees-loop-further
invariant-push_joined_callees-loop-further l = l.list ++ joined (map (spec.joined_callees (known_of l.names)) (drop l.further-index l.parts))
    ≡ l.initial.list ++ joined (map (spec.joined_callees (known_of l.names)) l.parts)
