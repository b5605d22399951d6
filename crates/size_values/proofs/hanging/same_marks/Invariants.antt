use Rattle.std.proofs.Common.{◌≡◌, drop, length}
use Rattle.size_values.specs.Hanging.{marks_eq}
use Rattle.size_values.proofs.hanging.same_marks.Given as goal

abbrev pub invariant-loop-flags : goal.invariant-loop-flags
invariant-loop-flags l = record {
  here : l.at ≡ l.flags-index;
  lengths : length l.a ≡ length l.b;
  rest : marks_eq (drop l.flags-index l.a) (drop l.at l.b) ≡ marks_eq l.a l.b;
}
