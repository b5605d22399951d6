use Rattle.std.proofs.Common.{◌≡◌, length, take}
use Rattle.sail_types.proofs.values_of.+same_value.Given as goal

-- what stands before the item in hand is the same
abbrev pub invariant-same_values-loop-item : goal.invariant-same_values-loop-item
invariant-same_values-loop-item l = record {
  here : l.at ≡ l.item-index;
  lengths : length l.a ≡ length l.b;
  before : take l.at l.a ≡ take l.at l.b;
}
