use Rattle.std.proofs.Common.{◌≡◌, drop, ◌++◌}
use Rattle.size_values.proofs.sized.+copy_sized.Given as goal

abbrev pub invariant-copy_all_sized-loop-sized : goal.invariant-copy_all_sized-loop-sized
invariant-copy_all_sized-loop-sized l = l.copies ++ drop l.sized-index l.types ≡ l.types
