use Rattle.std.proofs.Common.{◌≡◌, take, map}
use Rattle.function_notes.specs.Functions.{bare_pattern}
use Rattle.function_notes.proofs.bare.+bare.Given as goal

abbrev pub invariant-bare_patterns-loop-pattern : goal.invariant-bare_patterns-loop-pattern
invariant-bare_patterns-loop-pattern l = l.made ≡ map bare_pattern (take l.pattern-index l.patterns)
