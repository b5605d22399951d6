use Rattle.std.proofs.Common.{◌≡◌, ◌++◌, drop}
use Rattle.obligations.specs.Closing.{unnumbered}
use Rattle.obligations.proofs.closing.unnumbered.Given as goal

abbrev pub invariant-loop-atom : goal.invariant-loop-atom
invariant-loop-atom l = l.made ++ unnumbered l.facts l.goal (drop l.atom-index l.atoms) ≡ unnumbered l.facts l.goal l.atoms
