use Rattle.std.proofs.Common.{◌≡◌, ◌++◌, drop}
use Rattle.size_splits.specs.Sizing.{indices_where}
use Rattle.size_splits.proofs.given.indices_where.Given as goal

abbrev pub invariant-loop-at : goal.invariant-loop-at
invariant-loop-at l = l.made ++ indices_where (drop l.at l.flags) (drop l.at l.indices) ≡ indices_where l.flags l.indices
