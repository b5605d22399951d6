use Rattle.std.proofs.Common.{◌≡◌, ◌+◌, ◌*◌, drop, map, ◌++◌}
use denote.Param.Weighed.{most}
use Rattle.value_indices.proofs.indices.Indices.TheLaws.{the_size}
use Rattle.value_indices.proofs.indices.Reading.TheLaws.{the_size as type_size}
use Rattle.value_indices.specs.Walking.{got, run, seen}
use Rattle.wide_types.specs.Widening.{each_kept, kept_type, kept_value, opened_or_not}
use Rattle.wide_types.proofs.kept.+keep.Given as goal

-- the depth of the value or the type; a list stands above each of its parts
abbrev pub decreases-kept_value : goal.decreases-kept_value
decreases-kept_value l = 4 * the_size l.indices.now

abbrev pub decreases-kept_item : goal.decreases-kept_item
decreases-kept_item l = 4 * type_size l.item.now + 1

abbrev pub decreases-kept_part : goal.decreases-kept_part
decreases-kept_part l = 4 * the_size l.part.now + 1

abbrev pub decreases-kept_parts : goal.decreases-kept_parts
decreases-kept_parts l = 4 * most the_size l.parts.now + 2

abbrev pub decreases-kept_type : goal.decreases-kept_type
decreases-kept_type l = 4 * type_size l.reading.now

abbrev pub decreases-kept_argument : goal.decreases-kept_argument
decreases-kept_argument l = 4 * type_size l.reading.now + 1

abbrev pub decreases-kept_types : goal.decreases-kept_types
decreases-kept_types l = 4 * most type_size l.readings.now + 2

abbrev pub invariant-kept_parts-loop-index : goal.invariant-kept_parts-loop-index
invariant-kept_parts-loop-index l = record {
  value : l.made ++ got (each_kept (opened_or_not l.opens (map (kept_value l.types l.before) (drop l.index l.parts))) (drop l.index l.shapes)) (seen l.walked)
      ≡ got (each_kept (opened_or_not l.opens (map (kept_value l.types l.before) l.parts)) l.shapes) (seen l.fn.walked);
  walked : run (each_kept (opened_or_not l.opens (map (kept_value l.types l.before) (drop l.index l.parts))) (drop l.index l.shapes)) (seen l.walked)
      ≡ run (each_kept (opened_or_not l.opens (map (kept_value l.types l.before) l.parts)) l.shapes) (seen l.fn.walked);
}

abbrev pub invariant-kept_types-loop-index : goal.invariant-kept_types-loop-index
invariant-kept_types-loop-index l = record {
  value : l.made ++ got (each_kept (map (kept_type l.types l.before) (drop l.index l.readings)) (drop l.index l.shapes)) (seen l.walked)
      ≡ got (each_kept (map (kept_type l.types l.before) l.readings) l.shapes) (seen l.fn.walked);
  walked : run (each_kept (map (kept_type l.types l.before) (drop l.index l.readings)) (drop l.index l.shapes)) (seen l.walked)
      ≡ run (each_kept (map (kept_type l.types l.before) l.readings) l.shapes) (seen l.fn.walked);
}
