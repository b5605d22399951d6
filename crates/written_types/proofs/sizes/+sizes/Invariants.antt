use Rattle.std.proofs.Common.{◌≡◌, ◌++◌, take, map}
use Rattle.shape_rules.specs.Written.{joined, sizes_at}
use Rattle.written_types.proofs.sizes.+sizes.Given as goal

abbrev pub invariant-push_each_sizes-loop-typ : goal.invariant-push_each_sizes-loop-typ
invariant-push_each_sizes-loop-typ l = l.numbers ≡ l.fn.numbers ++ joined (map (sizes_at l.place) (take l.typ-index l.types))
