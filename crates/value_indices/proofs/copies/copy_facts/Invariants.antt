use Rattle.std.proofs.Common.{◌≡◌, drop, ◌++◌}
use Rattle.value_indices.proofs.copies.copy_facts.Given as goal

abbrev pub invariant-loop-fact : goal.invariant-loop-fact
invariant-loop-fact l = l.copies ++ drop l.fact-index l.facts ≡ l.facts
