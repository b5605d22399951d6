use Rattle.std.proofs.Common.{◌≡◌, ◌∷◌, ◌++◌, drop}
use Rattle.value_fits.proofs.lent.behind.Given as goal

abbrev pub invariant-loop-index : goal.invariant-loop-index
invariant-loop-index l = l.made ++ drop l.index-index l.indices ≡ l.fn.first ∷ l.indices
