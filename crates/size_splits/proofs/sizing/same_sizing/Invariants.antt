use Rattle.std.proofs.Common.{◌≡◌, length, take}
use Rattle.size_splits.proofs.sizing.same_sizing.Given as goal

-- what stands before the item in hand is the same
abbrev pub invariant-loop-flags : goal.invariant-loop-flags
invariant-loop-flags l = record {
  here : l.at ≡ l.flags-index;
  lengths : length l.first ≡ length l.others;
  before : take l.at l.first ≡ take l.at l.others;
}
