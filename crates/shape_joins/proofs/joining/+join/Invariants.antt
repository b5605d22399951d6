use Rattle.std.proofs.Common.{◌≡◌, drop, map, length}
use Rattle.shape_joins.specs.Joins.{join, join_all, keep_all}
use Rattle.shape_joins.specs.Parts.{behind}
use Rattle.shape_joins.proofs.joining.+join.Given as goal

abbrev pub invariant-join_parts-loop-index : goal.invariant-join_parts-loop-index
invariant-join_parts-loop-index l =
    (length l.parts ≡ length l.others)
    × (behind l.made (join_all (map join (drop l.index l.parts)) (drop l.index l.others)) ≡ join_all (map join l.parts) l.others)

abbrev pub invariant-keep_parts-loop-part : goal.invariant-keep_parts-loop-part
invariant-keep_parts-loop-part l = behind l.made (keep_all (map join (drop l.part-index l.parts))) ≡ keep_all (map join l.parts)
