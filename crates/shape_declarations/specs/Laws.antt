-- What follows of types with a zero.
use Rattle.std.specs.Prelude.{◌≡◌, true, Some}
use Rattle.sail_types.specs.Zero.{zero_of}
use Rattle.sail_types.specs.declared.table.Types.{Types}
use Rattle.sail_types.specs.declared.types.Typ.{Typ}
use Rattle.sail_types.specs.declared.values.Value.{Value}
use Rattle.shape_declarations.specs.Zeros.{has_zero}

-- no type is refused that has a value at which a register starts
abbrev pub ZerosAreTold : Type 0
ZerosAreTold = (types : Types) (t : Typ) (v : Value) → zero_of types t ≡ Some v → has_zero types t ≡ true
