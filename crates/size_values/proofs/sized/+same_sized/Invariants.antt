use Rattle.std.proofs.Common.{◌≡◌, drop, length}
use Rattle.size_values.specs.Sized.{all_eq}
use Rattle.size_values.proofs.sized.+same_sized.Given as goal

abbrev pub invariant-same_all-loop-sized : goal.invariant-same_all-loop-sized
invariant-same_all-loop-sized l = record {
  here : l.at ≡ l.sized-index;
  lengths : length l.a ≡ length l.b;
  rest : all_eq (drop l.sized-index l.a) (drop l.at l.b) ≡ all_eq l.a l.b;
}
