use Rattle.std.proofs.Common.{◌≡◌, drop, ◌++◌}
use Rattle.sail_types.proofs.constraints.+copy_con.Given as goal

abbrev pub invariant-copy_cons-loop-part : goal.invariant-copy_cons-loop-part
invariant-copy_cons-loop-part l = l.copies ++ drop l.part-index l.parts ≡ l.parts
