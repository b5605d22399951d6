use Rattle.std.proofs.Common.{◌≡◌, drop}
use Rattle.obligations.specs.Spreading.{spread_once}
use Rattle.obligations.proofs.connected.spread.Given as goal

abbrev pub invariant-loop-fact : goal.invariant-loop-fact
invariant-loop-fact l = spread_once (drop l.fact-index l.facts) l.atoms ≡ spread_once l.facts l.fn.atoms
