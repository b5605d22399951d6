-- What is taken of widened types.
use Rattle.std.specs.Prelude.{◌≡◌, true, List}
use Rattle.sail_types.specs.Belongs.{Reading as Closed}
use Rattle.sail_types.specs.Numbers.{Positive}
use Rattle.sail_types.specs.declared.table.Types.{Types}
use Rattle.sail_types.specs.declared.values.Value.{Value}
use Rattle.value_indices.specs.declared.indices.Indices.{Indices}
use Rattle.wide_types.specs.Widening.{widened}
use Rattle.value_laws.specs.Belonging.{Integers, standing, has, is_of}

-- a value that has indices is of their widened type
abbrev pub WideningSuffices : Type 0
WideningSuffices = (types : Types) (past : Positive) (own : List Closed) (g : Integers) (i : Indices) (v : Value)
    → has types (standing past g) own i v ≡ true → is_of types (standing past g) own (widened i) v ≡ true
