use Rattle.std.proofs.Common.{◌≡◌, ◌++◌, drop, map}
use Rattle.linear.specs.Choices.{joined}
use Rattle.size_notes.specs.Behind.{found_in, node_of}
use Rattle.size_notes.proofs.behind.+behind.Given as goal

abbrev pub invariant-push_cores-loop-core : goal.invariant-push_cores-loop-core
invariant-push_cores-loop-core l = l.made ++ joined (map found_in (map (node_of l.numbers) (drop l.core-index l.cores)))
    ≡ l.fn.made ++ joined (map found_in (map (node_of l.numbers) l.cores))
