use Rattle.std.proofs.Common.{◌≡◌, drop, map, ◌++◌}
use Rattle.value_indices.specs.Walking.{got, run, seen}
use Rattle.wide_types.specs.Widening.{in_turn, widest_of}
use Rattle.wide_types.proofs.widest.+widest_of.Given as goal

abbrev pub invariant-widest_of_each-loop-shape : goal.invariant-widest_of_each-loop-shape
invariant-widest_of_each-loop-shape l = record {
  value : l.made ++ got (in_turn (map (widest_of l.types) (drop l.shape-index l.shapes))) (seen l.walked)
      ≡ got (in_turn (map (widest_of l.types) l.shapes)) (seen l.fn.walked);
  walked : run (in_turn (map (widest_of l.types) (drop l.shape-index l.shapes))) (seen l.walked)
      ≡ run (in_turn (map (widest_of l.types) l.shapes)) (seen l.fn.walked);
}
