use Rattle.std.proofs.Common.{◌≡◌, ◌++◌, length}
use Rattle.std.specs.Vec.Iter.{into_iter_items, into_iter_len}
use Rattle.jib_lower.proofs.lowering.push_all.Given as goal

-- the rest makes up all of them
abbrev pub invariant-loop-function : goal.invariant-loop-function
invariant-loop-function l = record {
  known : into_iter_len l.function-iterator ≡ length (into_iter_items l.function-iterator);
  made : l.functions ++ into_iter_items l.function-iterator ≡ l.initial.functions ++ l.fn.others;
}
