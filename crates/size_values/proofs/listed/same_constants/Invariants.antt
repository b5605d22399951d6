use Rattle.std.proofs.Common.{◌≡◌, drop, length}
use Rattle.size_values.specs.Sizes.{constants_eq}
use Rattle.size_values.proofs.listed.same_constants.Given as goal

abbrev pub invariant-loop-constant : goal.invariant-loop-constant
invariant-loop-constant l = record {
  here : l.at ≡ l.constant-index;
  lengths : length l.a ≡ length l.b;
  rest : constants_eq (drop l.constant-index l.a) (drop l.at l.b) ≡ constants_eq l.a l.b;
}
