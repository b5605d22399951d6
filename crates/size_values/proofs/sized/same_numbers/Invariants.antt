use Rattle.std.proofs.Common.{◌≡◌, drop, length}
use Rattle.size_values.specs.Sized.{numbers_eq}
use Rattle.size_values.proofs.sized.same_numbers.Given as goal

abbrev pub invariant-loop-number : goal.invariant-loop-number
invariant-loop-number l = record {
  here : l.at ≡ l.number-index;
  lengths : length l.a ≡ length l.b;
  rest : numbers_eq (drop l.number-index l.a) (drop l.at l.b) ≡ numbers_eq l.a l.b;
}
