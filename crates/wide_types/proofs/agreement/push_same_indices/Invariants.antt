use Rattle.std.proofs.Common.{◌≡◌, drop, ◌++◌}
use Rattle.wide_types.specs.Widening.{same_indices}
use Rattle.wide_types.proofs.agreement.push_same_indices.Given as goal

abbrev pub invariant-loop-index : goal.invariant-loop-index
invariant-loop-index l =
    l.conditions ++ same_indices l.before (drop l.index l.first) (drop l.index l.others) ≡ l.fn.conditions ++ same_indices l.before l.first l.others
