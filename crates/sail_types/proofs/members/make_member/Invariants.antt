use Rattle.std.proofs.Common.{◌≡◌, drop, map, ◌++◌}
use Rattle.sail_types.specs.Sorts.{sort_shape}
use Rattle.sail_types.proofs.members.make_member.Given as goal

abbrev pub invariant-loop-sort : goal.invariant-loop-sort
invariant-loop-sort l = l.shapes ++ map sort_shape (drop l.sort-index l.params) ≡ map sort_shape l.params
