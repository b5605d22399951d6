use Rattle.std.proofs.Common.{◌≡◌, drop}
use Rattle.std.specs.List.{list_any}
use Rattle.shape_rules.specs.Written.{tells_number}
use Rattle.shape_declarations.proofs.vals.any_tells.Given as goal

abbrev pub invariant-loop-typ : goal.invariant-loop-typ
invariant-loop-typ l = list_any (tells_number l.variable) (drop l.typ-index l.types) ≡ list_any (tells_number l.variable) l.types
