use Rattle.std.proofs.Common.{◌≡◌, ◌++◌, drop}
use Rattle.value_fits.specs.Fitting.{indices_fit}
use Rattle.value_fits.proofs.conditions.indices_fit.Given as goal

abbrev pub invariant-loop-index : goal.invariant-loop-index
invariant-loop-index l = l.made ++ indices_fit (drop l.index l.indices) (drop l.index l.wanted) ≡ indices_fit l.indices l.wanted
