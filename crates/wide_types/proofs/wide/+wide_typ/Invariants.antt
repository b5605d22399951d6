use Rattle.std.proofs.Common.{◌≡◌, drop, map, ◌++◌}
use Rattle.wide_types.specs.Widening.{wide_typ}
use Rattle.wide_types.proofs.wide.+wide_typ.Given as goal

abbrev pub invariant-wide_typs-loop-typ : goal.invariant-wide_typs-loop-typ
invariant-wide_typs-loop-typ l = l.made ++ map wide_typ (drop l.typ-index l.types) ≡ map wide_typ l.types
