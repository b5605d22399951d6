use Rattle.std.proofs.Common.{◌≡◌, ◌++◌, length}
use Rattle.std.specs.Vec.Iter.{into_iter_items, into_iter_len}
use Rattle.jib_lower.proofs.order.join.Given as goal

-- the rest makes up all of them
abbrev pub invariant-loop-direction : goal.invariant-loop-direction
invariant-loop-direction l = record {
  known : into_iter_len l.direction-iterator ≡ length (into_iter_items l.direction-iterator);
  made : l.placed ++ into_iter_items l.direction-iterator ≡ l.initial.placed ++ l.fn.left;
}
