use Rattle.std.proofs.Common.{◌≡◌, ◌++◌, take}
use Rattle.value_indices.specs.Steps.{conditions}
use Rattle.fact_index.proofs.picking.push_conditions.Given as goal

abbrev pub invariant-loop-fact : goal.invariant-loop-fact
invariant-loop-fact l = l.made ≡ l.fn.made ++ conditions (take l.fact-index l.facts)
