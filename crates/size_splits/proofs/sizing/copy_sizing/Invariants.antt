use Rattle.std.proofs.Common.{◌≡◌, take}
use Rattle.size_splits.proofs.sizing.copy_sizing.Given as goal

abbrev pub invariant-loop-flags : goal.invariant-loop-flags
invariant-loop-flags l = l.copy ≡ take l.flags-index l.sizing
