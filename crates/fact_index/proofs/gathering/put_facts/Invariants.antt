use Rattle.std.proofs.Common.{take}
use Rattle.fact_index.specs.Gathered.{Puts}
use Rattle.fact_index.specs.Keys.{keys_at_each}
use Rattle.fact_index.proofs.gathering.put_facts.Given as goal

abbrev pub invariant-loop-position : goal.invariant-loop-position
invariant-loop-position l = Puts l.fn.keys l.keys (keys_at_each l.facts (take l.position-index l.positions))
