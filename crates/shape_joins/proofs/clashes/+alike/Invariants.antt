use Rattle.std.proofs.Common.{◌≡◌, drop, map, length}
use Rattle.shape_joins.specs.Numbering.{alike, each_alike}
use Rattle.shape_joins.proofs.clashes.+alike.Given as goal

abbrev pub invariant-all_alike-loop-index : goal.invariant-all_alike-loop-index
invariant-all_alike-loop-index l =
    (length l.a ≡ length l.b)
    × (each_alike (map (alike l.variables l.others) (drop l.index l.a)) (drop l.index l.b) ≡ each_alike (map (alike l.variables l.others) l.a) l.b)
