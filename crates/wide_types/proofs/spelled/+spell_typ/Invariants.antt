use Rattle.std.proofs.Common.{◌≡◌, drop, map, ◌++◌}
use Rattle.wide_types.specs.Widening.{typ_spelled}
use Rattle.wide_types.proofs.spelled.+spell_typ.Given as goal

abbrev pub invariant-spell_typs-loop-part : goal.invariant-spell_typs-loop-part
invariant-spell_typs-loop-part l =
    l.made ++ map (typ_spelled l.numbers l.types) (drop l.part-index l.parts) ≡ map (typ_spelled l.numbers l.types) l.parts
