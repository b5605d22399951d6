use Rattle.std.proofs.Common.{◌≡◌, length, take}
use Rattle.size_splits.proofs.sizing.same_flags.Given as goal

-- what stands before the item in hand is the same
abbrev pub invariant-loop-flag : goal.invariant-loop-flag
invariant-loop-flag l = record {
  here : l.at ≡ l.flag-index;
  lengths : length l.first ≡ length l.others;
  before : take l.at l.first ≡ take l.at l.others;
}
