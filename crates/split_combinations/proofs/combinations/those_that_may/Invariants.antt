use Rattle.std.proofs.Common.{◌≡◌, ◌++◌, drop}
use Rattle.value_indices.specs.Steps.{conditions}
use Rattle.size_values.specs.Numbers.{known_of}
use Rattle.size_splits.specs.Splits.{those_that_may}
use Rattle.split_combinations.proofs.combinations.those_that_may.Given as goal

abbrev pub invariant-loop-combination : goal.invariant-loop-combination
invariant-loop-combination l =
    l.made ++ those_that_may (known_of l.numbers) (conditions l.facts) (drop l.combination-index l.combinations)
    ≡ those_that_may (known_of l.numbers) (conditions l.facts) l.combinations
