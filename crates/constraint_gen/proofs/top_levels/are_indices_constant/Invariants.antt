use Rattle.std.proofs.Common.{◌≡◌, drop}
use Rattle.std.specs.List.{list_all}
use Rattle.constraint_gen.specs.Models.{index_constant}
use Rattle.constraint_gen.proofs.top_levels.are_indices_constant.Given as goal

abbrev pub invariant-loop-index : goal.invariant-loop-index
invariant-loop-index l = list_all index_constant (drop l.index-index l.indices) ≡ list_all index_constant l.indices
