use Rattle.std.proofs.Common.{take}
use Rattle.fact_index.specs.Gathered.{Puts}
use Rattle.fact_index.proofs.gathering.put_keys.Given as goal

abbrev pub invariant-loop-key : goal.invariant-loop-key
invariant-loop-key l = Puts l.fn.keys l.keys (take l.key-index l.more)
