use Rattle.std.proofs.Common.{◌≡◌, drop, map}
use Rattle.sail_core.specs.Fragments.{all_true, pattern_in}
use Rattle.sail_core.proofs.fragments.+pattern_in.Given as goal

abbrev pub invariant-patterns_in-loop-pattern : goal.invariant-patterns_in-loop-pattern
invariant-patterns_in-loop-pattern l =
    all_true (map (pattern_in l.fragment) (drop l.pattern-index l.patterns)) ≡ all_true (map (pattern_in l.fragment) l.patterns)
