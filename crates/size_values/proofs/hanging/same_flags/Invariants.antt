use Rattle.std.proofs.Common.{◌≡◌, drop, length}
use Rattle.size_values.specs.Hanging.{flags_eq}
use Rattle.size_values.proofs.hanging.same_flags.Given as goal

abbrev pub invariant-loop-flag : goal.invariant-loop-flag
invariant-loop-flag l = record {
  here : l.at ≡ l.flag-index;
  lengths : length l.a ≡ length l.b;
  rest : flags_eq (drop l.flag-index l.a) (drop l.at l.b) ≡ flags_eq l.a l.b;
}
