-- The types of the entry points of a model, `reset` and `step`.
use Rattle.std.specs.Prelude.{ℤ, pos, Bool, true, false, ◌&&◌, List, [], ◌∷◌, Option, Some, None}
use Rattle.std.specs.Ordering.{int_eq}
use Rattle.sail_types.specs.Sums.{is_constant, constant_of}
use Rattle.sail_types.specs.declared.numbers.Con.{Con, Con-F, out-Con}
use Rattle.sail_types.specs.declared.numbers.Con.TheOpen as C
use Rattle.sail_types.specs.declared.numbers.Num.{Num}
use Rattle.sail_types.specs.declared.types.Typ.{Typ, Typ-F, out-Typ}
use Rattle.sail_types.specs.declared.types.Typ.TheOpen as T
use Rattle.sail_kinds.specs.declared.scope.Variable.{Variable}
use Rattle.sail_signatures.specs.declared.signature.Signature.{Signature}

abbrev pub is_the_number : ℤ → Num → Bool
is_the_number n number = is_constant number && int_eq (constant_of number) n

-- ---- the types of the entry points

abbrev pub form_unit : Typ-F Typ → Bool
form_unit T.Unit = true
form_unit form = false

abbrev pub form_bool : Typ-F Typ → Bool
form_bool T.Bool = true
form_bool form = false

-- `range(0, 7)`, a hart
abbrev pub form_hart : Typ-F Typ → Bool
form_hart (T.Range low high) = is_the_number (pos 0) low && is_the_number (pos 7) high
form_hart form = false

-- `bits(64)`, an address
abbrev pub form_address : Typ-F Typ → Bool
form_address (T.Bits n) = is_the_number (pos 64) n
form_address form = false

abbrev pub are_hart_and_address : List Typ → Bool
are_hart_and_address (hart ∷ address ∷ []) = form_hart (out-Typ hart) && form_address (out-Typ address)
are_hart_and_address types = false

abbrev pub form_start : Typ-F Typ → Bool
form_start (T.Tuple types) = are_hart_and_address types
form_start form = false

abbrev pub binds_nothing : List Variable → Bool
binds_nothing [] = true
binds_nothing (variable ∷ variables) = false

-- a condition that is `true`, as that of no `forall` is
abbrev pub form_truth : Con-F Con → Bool
form_truth (C.Truth holds) = holds
form_truth form = false

-- no type variable and no condition
abbrev pub is_unquantified : Signature → Bool
is_unquantified signature = binds_nothing signature.variables && form_truth (out-Con signature.constraint)

-- `(range(0, 7), bits(64)) -> unit`
abbrev pub is_reset : Option Signature → Bool
is_reset None = false
is_reset (Some signature) =
    is_unquantified signature && (form_start (out-Typ signature.from) && form_unit (out-Typ signature.to))

-- `unit -> bool`
abbrev pub is_step : Option Signature → Bool
is_step None = false
is_step (Some signature) =
    is_unquantified signature && (form_unit (out-Typ signature.from) && form_bool (out-Typ signature.to))
