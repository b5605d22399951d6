use Rattle.std.proofs.Common.{◌≡◌, ◌++◌, ◌∷◌, true, drop}
use Rattle.told_sizes.specs.Among.{flagged}
use Rattle.told_sizes.proofs.among.known_before.Given as goal

abbrev pub invariant-loop-constant : goal.invariant-loop-constant
invariant-loop-constant l = l.made ++ drop l.constant-index l.constants ≡ flagged true ∷ l.constants
