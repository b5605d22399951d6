use Rattle.std.proofs.Common.{◌≡◌, ◌++◌, drop, map}
use Rattle.linear.specs.Choices.{joined}
use Rattle.size_notes.specs.Behind.{pattern_sizes}
use Rattle.size_notes.proofs.behind.+pattern_sizes.Given as goal

abbrev pub invariant-push_patterns-loop-pattern : goal.invariant-push_patterns-loop-pattern
invariant-push_patterns-loop-pattern l = l.made ++ joined (map (pattern_sizes l.numbers) (drop l.pattern-index l.patterns))
    ≡ l.fn.made ++ joined (map (pattern_sizes l.numbers) l.patterns)
