-- Values that have no memory of their own.
use Rattle.std.specs.Prelude.{Bool, true, false}
use Rattle.sail_types.specs.declared.values.Value.{Value}
use Rattle.sail_types.specs.declared.values.Value.TheVariants as value

-- a value that holds no text, no list and no other value
abbrev pub is_plain : Value → Bool
is_plain value.Unit = true
is_plain (value.Integer n) = true
is_plain (value.Truth b) = true
is_plain (value.Bit b) = true
is_plain (value.Bits bits) = true
is_plain (value.Member place member) = true
is_plain _ = false
