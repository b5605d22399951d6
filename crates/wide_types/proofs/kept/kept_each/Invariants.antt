use Rattle.std.proofs.Common.{◌≡◌, drop, ◌++◌}
use Rattle.value_indices.specs.Walking.{got, run, seen}
use Rattle.wide_types.specs.Widening.{kept_each}
use Rattle.wide_types.proofs.kept.kept_each.Given as goal

abbrev pub invariant-loop-number : goal.invariant-loop-number
invariant-loop-number l = record {
  value : l.made ++ got (kept_each l.before (drop l.number-index l.numbers)) (seen l.walked) ≡ got (kept_each l.before l.numbers) (seen l.fn.walked);
  walked : run (kept_each l.before (drop l.number-index l.numbers)) (seen l.walked) ≡ run (kept_each l.before l.numbers) (seen l.fn.walked);
}
