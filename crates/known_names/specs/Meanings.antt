-- What each name of a value means in a text, and what calls of it can enter.
use Rattle.std.specs.Prelude.{ℕ, Bool, true, false, if◌then◌else◌, List, [], find, filter_map, bytes_eq, nat_eq, codes, Option, Some, None, option_map}
use Rattle.std.specs.List.{list_any, flat_map}
use Rattle.std.specs.Option.{option_or}
use Rattle.sail_syntax.specs.declared.name.Name.{Name}
use Rattle.sail_syntax.specs.declared.definitions.Member.{Member}
use Rattle.sail_syntax.specs.declared.definitions.Overloaded.TheVariants as O
use Rattle.sail_syntax.specs.declared.definitions.Def.{Def}
use Rattle.sail_syntax.specs.declared.definitions.Def.TheVariants as D
use Rattle.sail_types.specs.Rows.{row_named}
use Rattle.sail_types.specs.declared.rows.Row.{Row}
use Rattle.sail_types.specs.declared.rows.Row.TheVariants as R
use Rattle.sail_globals.specs.declared.naming.Space.TheVariants.{Values}
use Rattle.sail_globals.specs.declared.naming.Called.TheVariants.{Function, Mapping, Direction}
use Rattle.sail_globals.specs.declared.naming.Alone.TheVariants as is
use Rattle.sail_globals.specs.declared.naming.Role.{Role}
use Rattle.sail_globals.specs.declared.naming.Role.TheVariants.{Declared, Defined, Overloaded, Whole}
use Rattle.sail_globals.specs.declared.naming.Naming.{Naming}
use Rattle.sail_globals.specs.Clashes.{has, builtin_constructors, takes}
use Rattle.sail_globals.specs.Namings.{all_namings}
use Rattle.sail_names.specs.declared.names.Global.{Global}
use Rattle.sail_names.specs.declared.names.Global.TheVariants as G
use Rattle.sail_names.specs.Known.{Known}
use Rattle.sail_base.specs.Operators.{number_of}

-- the builtins that read or write the state
abbrev pub is_of_state : Row → Bool
is_of_state R.MemRead = true
is_of_state R.MemReserve = true
is_of_state R.MemWrite = true
is_of_state R.MemWriteCond = true
is_of_state R.MemMapped = true
is_of_state R.Print = true
is_of_state R.PrintEndline = true
is_of_state R.ConsolePut = true
is_of_state row = false

abbrev pub builtin_row : Row → Global
builtin_row row = if is_of_state row then G.StateBuiltin else G.Builtin

-- what a name means before a text begins
abbrev pub builtin_value : List ℕ → Option Global
builtin_value name =
    if has builtin_constructors name then Some G.Constructor else option_map builtin_row (row_named name)

-- the number of what a call in this role enters, if any: a function's, or for a direction its mapping's, is the position of the
-- first definition that takes its name
abbrev pub entered_by : Role → ℕ → Option ℕ
entered_by (Declared Mapping) number = None
entered_by (Declared called) number = Some number
entered_by (Defined Mapping) number = None
entered_by (Defined called) number = Some number
entered_by (Whole is.Direction) number = Some number
entered_by role number = None

-- the first definition that takes a name of a value
abbrev pub naming_of : List Naming → List ℕ → Option Naming
naming_of namings name = find (takes Values name) namings

abbrev pub naming_entered : Option Naming → Option ℕ
naming_entered None = None
naming_entered (Some naming) = entered_by naming.role naming.definition

-- what a call of an overload with these members can enter
abbrev pub members_entered : List Naming → List Name → List ℕ
members_entered namings names = filter_map (λ name. naming_entered (naming_of namings name.text)) names

-- the members that a definition adds to the overload of a name, or of an operator
abbrev pub added_to_name : List ℕ → Def → List Name
added_to_name name (D.Overload place (O.Named own) members) = if bytes_eq own.text name then members else []
added_to_name name d = []

abbrev pub added_to_operator : ℕ → Def → List Name
added_to_operator number (D.Overload place (O.Operator at own) members) = if nat_eq (number_of own) number then members else []
added_to_operator number d = []

-- the members of an overload, of all definitions in text order
abbrev pub members_of_name : List Def → List ℕ → List Name
members_of_name text name = flat_map (added_to_name name) text

abbrev pub members_of_operator : List Def → ℕ → List Name
members_of_operator text number = flat_map (added_to_operator number) text

-- what a name means that is taken in this role, calls of which, where it is an overload, can enter these
abbrev pub global_as : List ℕ → Role → ℕ → Global
global_as entered (Declared Function) number = G.Function number
global_as entered (Declared Mapping) number = G.Mapping number
global_as entered (Declared Direction) number = G.Direction number
global_as entered (Defined Function) number = G.Function number
global_as entered (Defined Mapping) number = G.Mapping number
global_as entered (Defined Direction) number = G.Direction number
global_as entered Overloaded number = G.Overload entered
global_as entered (Whole is.Mapping) number = G.Mapping number
global_as entered (Whole is.Direction) number = G.Direction number
global_as entered (Whole is.Constructor) number = G.Constructor
global_as entered (Whole is.Member) number = G.Member
global_as entered (Whole is.Let) number = G.Let number
global_as entered (Whole what) number = G.Register

-- what a name of a value means: what it did before the text, else what the first definition that takes it defines
abbrev pub value_of : (List ℕ → List ℕ) → List Naming → List ℕ → Option Global
value_of entered namings name =
    option_or (builtin_value name) (option_map (λ naming. global_as (entered name) naming.role naming.definition) (naming_of namings name))

abbrev pub is_struct_named : List ℕ → Def → Bool
is_struct_named name (D.Struct place own parameters fields) = bytes_eq own.text name
is_struct_named name d = false

abbrev pub is_named : List ℕ → Member → Bool
is_named name field = bytes_eq field.name.text name

abbrev pub has_field : List ℕ → Def → Bool
has_field name (D.Struct place own parameters fields) = list_any (is_named name) fields
has_field name d = false

abbrev pub is_exception : Def → Bool
is_exception (D.Union place name parameters constructors) = bytes_eq name.text (codes "exception")
is_exception d = false

-- what the definitions of a text name, which take these names
abbrev pub known_from : List Naming → List Def → Known
known_from namings text = record {
  value = value_of (λ name. members_entered namings (members_of_name text name)) namings;
  is_struct = λ name. list_any (is_struct_named name) text;
  is_field = λ name. list_any (has_field name) text;
  has_exception = list_any is_exception text;
  overload = λ operator. members_entered namings (members_of_operator text (number_of operator));
}

-- what the definitions of a text name
abbrev pub known_in : List Def → Known
known_in text = known_from (all_namings text) text
