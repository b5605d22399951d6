use Rattle.std.proofs.Common.{◌≡◌, drop, ◌++◌, ◌∷◌}
use Rattle.size_values.specs.declared.constants.Constant.TheVariants as C
use Rattle.size_values.proofs.sizes.bound_before.Given as goal

abbrev pub invariant-loop-constant : goal.invariant-loop-constant
invariant-loop-constant l = l.made ++ drop l.constant-index l.constants ≡ C.Bound l.name ∷ l.constants
