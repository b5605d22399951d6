use Rattle.std.proofs.Common.{◌≡◌, length, take}
use Rattle.sail_types.proofs.constraints.+same_con.Given as goal

-- what stands before the item in hand is the same
abbrev pub invariant-same_cons-loop-item : goal.invariant-same_cons-loop-item
invariant-same_cons-loop-item l = record {
  here : l.at ≡ l.item-index;
  lengths : length l.a ≡ length l.b;
  before : take l.at l.a ≡ take l.at l.b;
}
