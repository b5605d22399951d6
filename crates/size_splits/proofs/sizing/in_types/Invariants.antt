use Rattle.std.proofs.Common.{◌≡◌, drop}
use Rattle.std.specs.List.{list_any}
use Rattle.size_values.specs.Sizes.{typ_names}
use Rattle.size_splits.proofs.sizing.in_types.Given as goal

-- the rest decides
abbrev pub invariant-loop-typ : goal.invariant-loop-typ
invariant-loop-typ l =
    list_any (typ_names l.types l.count l.variable) (drop l.typ-index l.list) ≡ list_any (typ_names l.types l.count l.variable) l.list
