use Rattle.std.proofs.Common.{◌≡◌, ◌++◌, map, drop}
use Rattle.sail_names.specs.Known.{setting_of}
use Rattle.sail_names.specs.Patterns.{joined, uses_failures, uses_of_joined}
use Rattle.sail_names.proofs.patterns.+uses.Given as goal

abbrev pub invariant-push_all_uses-loop-pattern : goal.invariant-push_all_uses-loop-pattern
invariant-push_all_uses-loop-pattern l =
    l.failures ++ joined (map (uses_failures (setting_of l.around)) (drop l.pattern-index l.patterns))
    ≡ l.initial.failures ++ joined (map (uses_failures (setting_of l.around)) l.patterns)

abbrev pub invariant-push_joined_uses-loop-further : goal.invariant-push_joined_uses-loop-further
invariant-push_joined_uses-loop-further l =
    l.failures ++ joined (map (uses_of_joined (setting_of l.around)) (drop l.further-index l.parts))
    ≡ l.initial.failures ++ joined (map (uses_of_joined (setting_of l.around)) l.parts)
