use Rattle.std.proofs.Common.{◌-◌, length}
use Rattle.obligations.specs.Connected.{spread_for}
use Rattle.obligations.specs.Spreading.{AreSame}
use Rattle.obligations.proofs.connected.spread_all.Given as goal

abbrev pub invariant-loop-round : goal.invariant-loop-round
invariant-loop-round l = AreSame (spread_for (length l.facts - l.round) l.facts l.atoms) (spread_for (length l.facts) l.facts l.fn.atoms)
