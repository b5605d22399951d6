use Rattle.std.proofs.Common.{◌≡◌, drop, length}
use Rattle.sized_trees.specs.Combinations.{all_picked_eq}
use Rattle.sized_trees.proofs.combinations.same_picked.Given as goal

abbrev pub invariant-loop-one : goal.invariant-loop-one
invariant-loop-one l = record {
  here : l.at ≡ l.one-index;
  lengths : length l.a ≡ length l.b;
  rest : all_picked_eq (drop l.one-index l.a) (drop l.at l.b) ≡ all_picked_eq l.a l.b;
}
