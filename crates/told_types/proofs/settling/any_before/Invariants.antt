use Rattle.std.proofs.Common.{◌≡◌, ◌++◌, ◌∷◌, drop}
use Rattle.sail_types.specs.Sums.{variable}
use Rattle.sail_types.specs.declared.numbers.Index.TheVariants as N
use Rattle.told_types.proofs.settling.any_before.Given as goal

abbrev pub invariant-loop-index : goal.invariant-loop-index
invariant-loop-index l = l.made ++ drop l.index-index l.indices ≡ N.Number (variable 0) ∷ l.indices
