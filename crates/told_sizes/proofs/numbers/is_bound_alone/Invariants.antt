use Rattle.std.proofs.Common.{◌≡◌, drop}
use Rattle.told_sizes.specs.Exact.{is_bound_alone}
use Rattle.told_sizes.proofs.numbers.is_bound_alone.Given as goal

abbrev pub invariant-loop-constant : goal.invariant-loop-constant
invariant-loop-constant l = record {
  here : l.index ≡ l.constant-index;
  rest : is_bound_alone l.index (drop l.constant-index l.constants) l.number ≡ is_bound_alone 0 l.constants l.number;
}
