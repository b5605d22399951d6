use Rattle.std.proofs.Common.{◌≡◌, drop}
use Rattle.std.specs.List.{list_any}
use Rattle.shape_declarations.specs.Vals.{stands_in}
use Rattle.shape_declarations.proofs.vals.any_holds.Given as goal

abbrev pub invariant-loop-typ : goal.invariant-loop-typ
invariant-loop-typ l = list_any (stands_in l.variable) (drop l.typ-index l.types) ≡ list_any (stands_in l.variable) l.types
