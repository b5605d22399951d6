use Rattle.std.proofs.Common.{◌≡◌, ◌++◌, drop}
use Rattle.value_fits.specs.Fitting.{each_under}
use Rattle.value_fits.proofs.lent.each_under.Given as goal

abbrev pub invariant-loop-typ : goal.invariant-loop-typ
invariant-loop-typ l = l.made ++ each_under l.indices l.readings (drop l.typ-index l.types) ≡ each_under l.indices l.readings l.types
