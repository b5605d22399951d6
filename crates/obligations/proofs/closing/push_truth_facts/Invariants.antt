use Rattle.std.proofs.Common.{◌≡◌, ◌++◌, drop}
use Rattle.obligations.specs.Closing.{truth_facts}
use Rattle.obligations.proofs.closing.push_truth_facts.Given as goal

abbrev pub invariant-loop-atom : goal.invariant-loop-atom
invariant-loop-atom l = l.facts ++ truth_facts (drop l.atom-index l.atoms) ≡ l.fn.facts ++ truth_facts l.atoms
