use Rattle.std.proofs.Common.{◌≡◌, ◌++◌, length}
use Rattle.std.specs.Vec.Iter.{into_iter_items, into_iter_len}
use Rattle.value_indices.specs.Steps.{conditions}
use Rattle.value_indices.proofs.conditions.conditions_of.Given as goal

-- the rest makes up all of them
abbrev pub invariant-loop-fact : goal.invariant-loop-fact
invariant-loop-fact l = record {
  known : into_iter_len l.fact-iterator ≡ length (into_iter_items l.fact-iterator);
  all : l.conditions ++ conditions (into_iter_items l.fact-iterator) ≡ conditions l.fn.facts;
}
