-- Which registers have a zero, at which they start (Sail language manual, "Registers").
use Rattle.std.specs.Prelude.{Bool, List, is_some}
use Rattle.std.specs.List.{list_all}
use Rattle.sail_types.specs.Zero.{zero_of}
use Rattle.sail_types.specs.declared.table.Types.{Types}
use Rattle.model_state.specs.declared.state.Register.{Register}

-- the type of a register has one
abbrev pub has_zero : Types → Register → Bool
has_zero types register = is_some (zero_of types register.typ)

-- the type of each does
abbrev pub have_zeros : Types → List Register → Bool
have_zeros types registers = list_all (has_zero types) registers
