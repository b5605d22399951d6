use Rattle.std.proofs.Common.{◌≡◌, drop, ◌++◌}
use Rattle.value_indices.proofs.copies.+copy_indices.Given as goal

abbrev pub invariant-copy_each-loop-part : goal.invariant-copy_each-loop-part
invariant-copy_each-loop-part l = l.copies ++ drop l.part-index l.parts ≡ l.parts

abbrev pub invariant-copy_readings-loop-reading : goal.invariant-copy_readings-loop-reading
invariant-copy_readings-loop-reading l = l.copies ++ drop l.reading-index l.readings ≡ l.readings
