-- The type `option`, by which directions of mappings say that they give nothing (Sail language manual, "Mappings").
use Rattle.std.specs.Prelude.{◌≡◌, Some}
use Rattle.sail_types.specs.Named.{payload}
use Rattle.sail_types.specs.declared.table.Types.{Types}
use Rattle.sail_types.specs.declared.types.Typ.TheVariants as T

-- it is the first named type: `Some` of its argument, and `None`
pub record OptionFirst (types : Types) : Type 0 where
  pub some : payload types 0 0 ≡ Some (T.Variable 0)
  pub none : payload types 0 1 ≡ Some T.Unit
