-- What contracts of private functions say of steps that are pushed behind others.
use Rattle.std.specs.Prelude.{ℕ, List, ◌++◌}
use Rattle.sail_core.specs.declared.patterns.Step.{Step}
use Rattle.match_rewrite.specs.Rewriting.{Steps}

-- the steps at hand, and the next number
abbrev pub reached : List Step → ℕ → Steps
reached steps next = record { steps = steps; next = next }

-- these steps, and then those
abbrev pub added : List Step → Steps → Steps
added first more = record { steps = first ++ more.steps; next = more.next }
