-- Calls whose arguments are walked (Sail language manual, "Functions", "Unions").
use Rattle.std.specs.Prelude.{Bool, List, None, Option, Some, if◌then◌else◌, length, map, nat_eq, slice_get, take, ℕ}
use Rattle.sail_base.specs.declared.place.Place.{Place}
use Rattle.sail_types.specs.Named.{payload}
use Rattle.sail_types.specs.declared.types.Typ.{Typ}
use Rattle.sail_core.specs.declared.tree.Callee.{Callee}
use Rattle.sail_core.specs.declared.tree.Callee.TheVariants as D
use Rattle.value_indices.specs.Steps.{Walk, bind}
use Rattle.value_indices.specs.declared.indices.Indices.{Indices}
use Rattle.value_indices.specs.declared.indices.Reading.{Reading}
use Rattle.wide_types.specs.Widening.{parameters_of}
use Rattle.pattern_leaves.specs.Settings.{Around, Scope}
use Rattle.call_arguments.specs.Aims.{of_wanted, type_arguments, wanted}
use Rattle.call_arguments.specs.Callees.{argument_aim, part_aim, payload_types}
use Rattle.call_notes.specs.Calls.{called, callee_types, made_named}
use Rattle.call_notes.specs.Noted.{node_ended}
use Rattle.call_arguments.specs.declared.aims.Aim.{Aim}
use Rattle.expression_forms.specs.Ways.{types_in}
use Rattle.expression_steps.specs.Parts.{Part, each_walk}

-- ---- arguments: what is wanted of them, and whether they owe it further in

abbrev pub argument_aims : List Typ → List Aim
argument_aims ts = map argument_aim ts

abbrev pub arguments_walk : List Part → Around → Scope → List Typ → Walk (List Indices)
arguments_walk args around scope ts = each_walk args around scope (argument_aims ts)

abbrev pub nestings : List Part → List Bool
nestings args = map (λ a. a.is_nested) args

-- ---- constructors and structs: as many arguments as there are types

abbrev pub part_aims : Option (List Reading) → List Typ → List Aim
part_aims known ts = map (part_aim known) ts

abbrev pub places_of : List Part → List Place
places_of args = map (λ a. a.place) args

-- a value of the named type of this place in the table, made of arguments of these types
abbrev pub named_made : Around → ℕ → List Part → Option (List Reading) → List Typ → List Indices → Walk Indices
named_made around u args known ts is =
    made_named around u (parameters_of (slice_get around.types.definitions u)) (places_of args) known ts is

-- types, if they are so many
abbrev pub so_many : ℕ → Option (List Reading) → Option (List Reading)
so_many n None = None
so_many n (Some rs) = if nat_eq (length rs) n then Some rs else None

-- the Type arguments of the type that is wanted, where a union has as many Type variables
abbrev pub known_arguments : Around → ℕ → Aim → Option (List Reading)
known_arguments around u aim = so_many (types_in around u) (of_wanted None type_arguments (wanted aim))

-- the types of so many arguments of a constructor
abbrev pub constructor_types : Around → ℕ → ℕ → ℕ → List Typ
constructor_types around u c n = payload_types n (payload around.types u c)

-- ---- calls: what is wanted of so many arguments, how many of them are walked, and what is made of their values

abbrev pub call_aims : Around → Callee → ℕ → Aim → List Aim
call_aims around (D.Constructor u c) n aim = part_aims (known_arguments around u aim) (constructor_types around u c n)
call_aims around callee n aim = argument_aims (callee_types around callee)

abbrev pub call_count : Around → Callee → ℕ → ℕ
call_count around (D.Constructor u c) n = length (constructor_types around u c n)
call_count around callee n = n

abbrev pub constructed : Around → ℕ → ℕ → ℕ → List Part → Aim → List Indices → Walk Indices
constructed around k u c args aim is =
    bind (named_made around u args (known_arguments around u aim) (constructor_types around u c (length args)) is) (node_ended k is)

abbrev pub call_made : Around → Place → ℕ → Callee → List Part → Aim → List Indices → Walk Indices
call_made around place k (D.Constructor u c) args aim is = constructed around k u c args aim is
call_made around place k callee args aim is = called around place k callee (nestings args) is

abbrev pub call_walk : Place → ℕ → Callee → List Part → Around → Scope → Aim → Walk Indices
call_walk place k callee args around scope aim =
    bind (each_walk (take (call_count around callee (length args)) args) around scope (call_aims around callee (length args) aim))
    (call_made around place k callee args aim)
