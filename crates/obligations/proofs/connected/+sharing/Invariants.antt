use Rattle.std.proofs.Common.{◌≡◌, drop, map}
use Rattle.linear.specs.Choices.{joined, variables_in}
use Rattle.obligations.specs.Connected.{shares}
use Rattle.obligations.proofs.connected.+sharing.Given as goal

abbrev pub invariant-are_sharing-loop-con : goal.invariant-are_sharing-loop-con
invariant-are_sharing-loop-con l =
    shares (joined (map variables_in (drop l.con-index l.cons))) l.atoms ≡ shares (joined (map variables_in l.cons)) l.atoms
