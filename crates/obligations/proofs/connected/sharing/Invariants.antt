use Rattle.std.proofs.Common.{◌≡◌, ◌++◌, drop}
use Rattle.obligations.specs.Connected.{sharing}
use Rattle.obligations.proofs.connected.sharing.Given as goal

abbrev pub invariant-loop-fact : goal.invariant-loop-fact
invariant-loop-fact l = l.made ++ sharing l.atoms (drop l.fact-index l.facts) ≡ sharing l.atoms l.facts
