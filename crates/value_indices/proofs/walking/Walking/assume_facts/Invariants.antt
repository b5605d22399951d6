use Rattle.std.proofs.Common.{◌≡◌, length}
use Rattle.std.specs.Vec.Iter.{into_iter_items, into_iter_len}
use Rattle.value_indices.specs.Walking.{seen, with_facts}
use Rattle.value_indices.proofs.walking.Walking.assume_facts.Given as goal

-- the rest makes up all of them
abbrev pub invariant-loop-fact : goal.invariant-loop-fact
invariant-loop-fact l = record {
  known : into_iter_len l.fact-iterator ≡ length (into_iter_items l.fact-iterator);
  assumed : with_facts (into_iter_items l.fact-iterator) (seen l.self) ≡ with_facts l.fn.facts (seen l.initial.self);
}
