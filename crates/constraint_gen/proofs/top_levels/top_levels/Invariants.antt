use Rattle.std.proofs.Common.{◌≡◌, ◌++◌, [], drop}
use Rattle.constraint_gen.specs.Defined.{counts_behind}
use Rattle.constraint_gen.specs.Models.{around_with, lets_behind, around_of}
use Rattle.constraint_gen.proofs.top_levels.top_levels.Given as goal

abbrev pub invariant-loop-opening : goal.invariant-loop-opening
invariant-loop-opening l = record {
  known : lets_behind (around_with l.core l.names) (drop l.opening-index l.opening-items) ≡ around_of l.core;
  counted : l.counts ++ counts_behind (around_with l.core l.names) (drop l.opening-index l.opening-items)
      ≡ counts_behind (around_with l.core []) l.opening-items;
}
