-- No type of a valid module has more bits than a word can have.
use Rattle.std.specs.Prelude.{nat_le, Bool, true, List}
use Rattle.std.specs.List.{list_all}
use Rattle.jib.specs.declared.types.ValueType.{ValueType}
use Rattle.jib.specs.declared.types.ValueType.TheVariants as T

abbrev pub is_narrow : ValueType → Bool
is_narrow (T.Bits w) = nat_le w 128
is_narrow t = true

abbrev pub all_narrow : List ValueType → Bool
all_narrow ts = list_all is_narrow ts
