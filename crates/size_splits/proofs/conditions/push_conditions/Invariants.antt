use Rattle.std.proofs.Common.{◌≡◌, ◌++◌, drop, map}
use Rattle.value_indices.specs.Steps.{conditions}
use Rattle.size_splits.specs.Reading.{pointed}
use Rattle.size_splits.proofs.conditions.push_conditions.Given as goal

abbrev pub invariant-loop-fact : goal.invariant-loop-fact
invariant-loop-fact l =
    map pointed l.made.items ++ conditions (drop l.fact-index l.facts) ≡ map pointed l.fn.made.items ++ conditions l.facts
