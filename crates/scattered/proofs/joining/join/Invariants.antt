use Rattle.std.proofs.Common.{◌≡◌, ◌++◌, length}
use Rattle.std.specs.Vec.Iter.{into_iter_items, into_iter_len}
use Rattle.scattered.proofs.Joined.{JoinedSoFar}
use Rattle.scattered.proofs.joining.join.Given as goal

abbrev pub invariant-loop-definition : goal.invariant-loop-definition
invariant-loop-definition l = record {
  text : l.yielded ++ into_iter_items l.definition-iterator ≡ into_iter_items l.initial.definition-iterator;
  count : into_iter_len l.definition-iterator ≡ length (into_iter_items l.definition-iterator);
  index : l.index ≡ length l.yielded;
  joined : JoinedSoFar l.openings l.yielded (into_iter_items l.definition-iterator) l.joined.items;
}
