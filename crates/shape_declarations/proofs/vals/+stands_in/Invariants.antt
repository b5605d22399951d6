use Rattle.std.proofs.Common.{◌≡◌, map, drop}
use Rattle.shape_joins.specs.Joins.{any_of}
use Rattle.shape_declarations.specs.Vals.{stands_in}
use Rattle.shape_declarations.proofs.vals.+stands_in.Given as goal

abbrev pub invariant-stands_in_part-loop-typ : goal.invariant-stands_in_part-loop-typ
invariant-stands_in_part-loop-typ l = any_of (map (stands_in l.variable) (drop l.typ-index l.types)) ≡ any_of (map (stands_in l.variable) l.types)
