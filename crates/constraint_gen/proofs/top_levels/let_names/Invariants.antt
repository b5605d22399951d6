use Rattle.std.proofs.Common.{◌≡◌, take, map}
use Rattle.constraint_gen.specs.Models.{top_level}
use Rattle.constraint_gen.proofs.top_levels.let_names.Given as goal

abbrev pub invariant-loop-bound : goal.invariant-loop-bound
invariant-loop-bound l = l.made ≡ map top_level (take l.bound-index l.bound-items)
