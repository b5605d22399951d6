use Rattle.std.proofs.Common.{◌≡◌, length, take}
use Rattle.sail_fits.proofs.type_equality.same_indices.Given as goal

-- what stands before the item in hand is the same
abbrev pub invariant-loop-item : goal.invariant-loop-item
invariant-loop-item l = record {
  here : l.at ≡ l.item-index;
  lengths : length l.a ≡ length l.b;
  before : take l.at l.a ≡ take l.at l.b;
}
