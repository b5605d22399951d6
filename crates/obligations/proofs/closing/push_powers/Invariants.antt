use Rattle.std.proofs.Common.{◌≡◌, ◌++◌, drop}
use Rattle.obligations.specs.Closing.{power_facts}
use Rattle.obligations.proofs.closing.push_powers.Given as goal

abbrev pub invariant-loop-atom : goal.invariant-loop-atom
invariant-loop-atom l = l.facts ++ power_facts (drop l.atom-index l.atoms) ≡ l.fn.facts ++ power_facts l.atoms
