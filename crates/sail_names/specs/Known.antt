-- What the definitions of a model name, and which of it can be named how (Sail language manual, "Functions", "Mappings",
-- "Overloading", "Registers", "Enums"). Callees are looked up among callables alone, so no local hides one.
use Rattle.std.specs.Prelude.{ℕ, Bool, true, false, ◌||◌, nat_lt, List, [], is_some, Option, Some, None}
use Rattle.std.specs.HashMap.{get_by_text}
use Rattle.std.specs.HashSet.{contains_text}
use Rattle.std.specs.Option.{unwrap_or}
use Rattle.std.specs.List.{slice_get}
use Rattle.sail_base.specs.declared.operators.Operator.{Operator}
use Rattle.sail_kinds.specs.Scopes.{Within, within}
use Rattle.sail_names.specs.declared.around.Allowed.{Allowed}
use Rattle.sail_names.specs.declared.around.Allowed.TheVariants.{Any, Plain, LoopMeasure}
use Rattle.sail_names.specs.declared.around.Around.{Around}
use Rattle.sail_names.specs.declared.locals.Binding.{Binding}
use Rattle.sail_names.specs.declared.locals.Binding.TheVariants.{Constant, Variable}
use Rattle.sail_names.specs.declared.names.Global.{Global}
use Rattle.sail_names.specs.declared.names.Global.TheVariants as G
use Rattle.sail_names.specs.declared.names.Names.{Names}
use Rattle.sail_names.specs.Locals.{Locals, binding_of}
use Rattle.sail_base.specs.Operators.{number_of}

-- what the definitions of a model name
pub record Known : Type 0 where
  pub value : List ℕ → Option Global  -- in the space of values
  pub is_struct : List ℕ → Bool  -- in the space of types, a struct
  pub is_field : List ℕ → Bool  -- a field of some struct
  pub has_exception : Bool  -- there is a union `exception`
  pub overload : Operator → List ℕ  -- what a call of an overloaded operator can enter

abbrev pub known_of : Names → Known
known_of names = record {
  value = λ name. get_by_text names.values name;
  is_struct = λ name. contains_text names.structs name;
  is_field = λ name. contains_text names.fields name;
  has_exception = names.has_exception;
  overload = λ operator. unwrap_or (slice_get names.operators (number_of operator)) [];
}

-- where an expression stands: what is known, the types that can be named, what an expression may name, and the number of the
-- definition that it belongs to, by which top-level lets before it are told
pub record Setting : Type 0 where
  pub known : Known
  pub types : Within
  pub allowed : Allowed
  pub number : ℕ

abbrev pub setting_of : Around → Setting
setting_of around = record { known = known_of around.names.now; types = within around.scope; allowed = around.allowed; number = around.number }

-- the setting of a loop's measure
abbrev pub in_measure : Setting → Setting
in_measure setting = record setting { allowed = LoopMeasure }

abbrev pub is_any : Allowed → Bool
is_any Any = true
is_any allowed = false

-- a plain expression names earlier lets alone
abbrev pub is_let_seen : Allowed → ℕ → ℕ → Bool
is_let_seen Any defined number = true
is_let_seen allowed defined number = nat_lt defined number

-- a plain expression names no register, but for a loop's measure
abbrev pub is_register_seen : Allowed → Bool
is_register_seen Plain = false
is_register_seen allowed = true

-- a value is a register, a top-level let or a member of an enum
abbrev pub is_global_value : Allowed → ℕ → Option Global → Bool
is_global_value allowed number (Some G.Register) = is_register_seen allowed
is_global_value allowed number (Some (G.Let defined)) = is_let_seen allowed defined number
is_global_value allowed number (Some G.Member) = true
is_global_value allowed number global = false

-- or a local name
abbrev pub is_value : Setting → Locals → List ℕ → Bool
is_value setting locals name = is_some (binding_of name locals) || is_global_value setting.allowed setting.number (setting.known.value name)

-- a callee is a function, a mapping, a direction of one, a constructor, an overload or a builtin; in a plain expression a
-- constructor or a builtin without state
abbrev pub is_global_callee : Allowed → Option Global → Bool
is_global_callee allowed (Some G.Constructor) = true
is_global_callee allowed (Some G.Builtin) = true
is_global_callee allowed (Some G.StateBuiltin) = is_any allowed
is_global_callee allowed (Some (G.Function number)) = is_any allowed
is_global_callee allowed (Some (G.Mapping number)) = is_any allowed
is_global_callee allowed (Some (G.Direction number)) = is_any allowed
is_global_callee allowed (Some (G.Overload members)) = is_any allowed
is_global_callee allowed global = false

abbrev pub is_callee : Setting → List ℕ → Bool
is_callee setting name = is_global_callee setting.allowed (setting.known.value name)

-- `id(p, q)` as a pattern names a constructor, a mapping or a direction of one; in a plain expression a constructor
abbrev pub is_global_construction : Allowed → Option Global → Bool
is_global_construction allowed (Some G.Constructor) = true
is_global_construction allowed (Some (G.Mapping number)) = is_any allowed
is_global_construction allowed (Some (G.Direction number)) = is_any allowed
is_global_construction allowed global = false

abbrev pub is_construction : Setting → List ℕ → Bool
is_construction setting name = is_global_construction setting.allowed (setting.known.value name)

-- a bare identifier as a pattern is a member where an enum has it
abbrev pub is_global_member : Option Global → Bool
is_global_member (Some G.Member) = true
is_global_member global = false

abbrev pub is_member : Known → List ℕ → Bool
is_member known name = is_global_member (known.value name)

-- an assigned name is a local `var`, or where no local hides it a register
abbrev pub is_register : Option Global → Bool
is_register (Some G.Register) = true
is_register global = false

abbrev pub is_assigned_as : Option Binding → Option Global → Bool
is_assigned_as (Some Variable) global = true
is_assigned_as (Some Constant) global = false
is_assigned_as None global = is_register global

abbrev pub is_assigned : Setting → Locals → List ℕ → Bool
is_assigned setting locals name = is_assigned_as (binding_of name locals) (setting.known.value name)
