use Rattle.std.proofs.Common.{◌≡◌, nat_eq, drop}
use Rattle.std.specs.List.{list_any}
use Rattle.sized_trees.proofs.combinations.is_among.Given as goal

-- the rest decides
abbrev pub invariant-loop-other : goal.invariant-loop-other
invariant-loop-other l = list_any (nat_eq l.variable) (drop l.other-index l.variables) ≡ list_any (nat_eq l.variable) l.variables
