-- The types that the definitions of a text define, in text order: a type names those that are defined before it (Sail language
-- manual, "User-defined types" and "Type synonyms").
use Rattle.std.specs.Prelude.{◌≡◌, ℕ, false, if◌then◌else◌, List, [], ◌∷◌, ◌++◌, map, length, bytes_eq, codes}
use Rattle.std.specs.Prelude.{Option, Some, None, is_some}
use Rattle.std.specs.List.{flat_map}
use Rattle.std.specs.Option.{option_or}
use Rattle.sail_base.specs.declared.kind.Kind.{Kind}
use Rattle.sail_base.specs.declared.kind.Kind.TheVariants as K
use Rattle.sail_syntax.specs.declared.name.Name.{Name}
use Rattle.sail_syntax.specs.declared.types.TyExp.{TyExp}
use Rattle.sail_syntax.specs.declared.definitions.Param.{Param}
use Rattle.sail_syntax.specs.declared.definitions.Member.{Member}
use Rattle.sail_syntax.specs.declared.definitions.Def.{Def}
use Rattle.sail_syntax.specs.declared.definitions.Def.TheVariants as D
use Rattle.sail_types.specs.declared.table.Definition.{Definition}
use Rattle.sail_types.specs.declared.table.Parameter.{Parameter}
use Rattle.sail_types.specs.declared.table.Field.{Field}
use Rattle.sail_types.specs.declared.table.Form.{Form}
use Rattle.sail_types.specs.declared.table.Form.TheVariants as F
use Rattle.sail_types.specs.declared.types.Typ.{Typ}
use Rattle.sail_types.specs.declared.types.Typ.TheVariants as T
use Rattle.type_arguments.specs.declared.normal.Normal.{Normal}
use Rattle.sail_kinds.specs.declared.error.TableError.{TableError}
use Rattle.sail_kinds.specs.declared.scope.Variable.{Variable}
use Rattle.sail_kinds.specs.declared.scope.NamedType.{NamedType}
use Rattle.sail_kinds.specs.declared.scope.Meaning.{Meaning}
use Rattle.sail_kinds.specs.declared.scope.Meaning.TheVariants as M
use Rattle.sail_kinds.specs.Scopes.{Within, type_named, own_of}
use Rattle.type_arguments.specs.Taken.{typ_of}
use Rattle.sail_kinds.specs.Normal.{Reading, in_order, reading, reading_as}
use Rattle.sail_kinds.specs.Repeated.{clashes}
use Rattle.type_definitions.specs.declared.defined.Defined.{Defined}

-- what is defined so far: what each name stands for, and the structs, unions and enums by their places in the table
pub record Types : Type 0 where
  pub named : List ℕ → Option NamedType
  pub table : List Definition

-- ---- names

-- one more name; a name that is taken keeps its meaning
abbrev pub with_name : List ℕ → NamedType → (List ℕ → Option NamedType) → List ℕ → Option NamedType
with_name name typ named other = if bytes_eq name other then option_or (named other) (Some typ) else named other

-- ---- parameters

abbrev pub names_of : List Param → List Name
names_of parameters = map (λ parameter. parameter.name) parameters

abbrev pub kinds_of : List Param → List Kind
kinds_of parameters = map (λ parameter. parameter.kind) parameters

abbrev pub variables_of : List Param → List Variable
variables_of parameters = map (λ parameter. record { name = parameter.name.text; kind = parameter.kind }) parameters

abbrev pub table_parameters : List Param → List Parameter
table_parameters parameters = map (λ parameter. record { name = parameter.name.text; kind = parameter.kind }) parameters

-- where a text is read under parameters
abbrev pub under : (List ℕ → Option NamedType) → List Param → Within
under named parameters = record { types = named; own = None; is_in_list = false; variables = variables_of parameters }

-- likewise in the definition of this union
abbrev pub under_union : (List ℕ → Option NamedType) → List ℕ → List Param → Within
under_union named name parameters = record { types = named; own = Some name; is_in_list = false; variables = variables_of parameters }

-- ---- `option`, which is always there

abbrev pub option_field : List ℕ → Typ → Field
option_field name typ = record { name = name; typ = typ }

abbrev pub option_definition : Definition
option_definition = record {
  name = codes "option";
  parameters = record { name = codes "'a"; kind = K.Type } ∷ [];
  form = F.Union (option_field (codes "Some") (T.Variable 0) ∷ option_field (codes "None") T.Unit ∷ []);
}

abbrev pub option_type : NamedType
option_type = record { parameters = K.Type ∷ []; meaning = M.Defined 0 }

-- before the first definition of a text
abbrev pub builtin_types : Types
builtin_types = record { named = with_name (codes "option") option_type (λ name. None); table = option_definition ∷ [] }

-- ---- one definition

-- what a `type` stands for
abbrev pub alias_of : Option Normal → Meaning
alias_of None = M.Unknown
alias_of (Some normal) = M.Alias normal

-- its right side, of the kind that is written
abbrev pub right_side : Option Kind → TyExp → Within → Reading Normal
right_side None typ within = reading typ within
right_side (Some kind) typ within = reading_as kind typ within

-- the struct, union or enum that stands next in the table
abbrev pub next_type : List Param → Types → NamedType
next_type parameters types = record { parameters = kinds_of parameters; meaning = M.Defined (length types.table) }

-- the type of a field, or the payload of a constructor
abbrev pub member_read : Within → Member → Reading Normal
member_read within member = reading_as K.Type member.typ within

abbrev pub member_names : List Member → List Name
member_names members = map (λ member. member.name) members

abbrev pub members_failures : Within → List Member → List TableError
members_failures within members = in_order (map (λ member. (member_read within member).failures) members)

abbrev pub field_if : Member → Option Typ → Option Field
field_if member None = None
field_if member (Some typ) = Some (record { name = member.name.text; typ = typ })

abbrev pub typ_if : Option Normal → Option Typ
typ_if None = None
typ_if (Some normal) = typ_of normal

abbrev pub list_of : {A : Type 0} → Option A → List A
list_of None = []
list_of (Some x) = x ∷ []

-- the members whose types stand for something
abbrev pub fields_of : Within → List Member → List Field
fields_of within members = flat_map (λ member. list_of (field_if member (typ_if (member_read within member).normal))) members

-- where the constructors of a union are read: it is defined, and named inside a `list` alone
abbrev pub within_union : Types → List ℕ → List Param → Within
within_union types name parameters = under_union (with_name name (next_type parameters types) types.named) name parameters

-- a struct, union or enum as the table has it
abbrev pub table_row : List ℕ → List Param → Form → Definition
table_row name parameters form = record { name = name; parameters = table_parameters parameters; form = form }

-- one more struct, union or enum, unless its name is taken
abbrev pub with_form : List ℕ → List Param → Form → Types → Types
with_form name parameters form types =
    if is_some (types.named name) then types else (record {
      named = with_name name (next_type parameters types) types.named;
      table = types.table ++ table_row name parameters form ∷ [];
    })

-- a `type`: the reading of its right side, its failures, and what is defined with it
abbrev pub alias_read : Types → List Param → Option Kind → TyExp → Reading Normal
alias_read types parameters kind typ = right_side kind typ (under types.named parameters)

abbrev pub alias_failures : Types → List Param → Option Kind → TyExp → List TableError
alias_failures types parameters kind typ = clashes (names_of parameters) ++ (alias_read types parameters kind typ).failures

abbrev pub alias_type : Types → List Param → Option Kind → TyExp → NamedType
alias_type types parameters kind typ =
    record { parameters = kinds_of parameters; meaning = alias_of (alias_read types parameters kind typ).normal }

-- one more name, of a type that isn't in the table
abbrev pub named_with : Types → List ℕ → NamedType → Types
named_with types name typ = record { named = with_name name typ types.named; table = types.table }

-- a struct: equal names in its lists of parameters or fields (M09), and the failures of its types
abbrev pub struct_failures : Types → List Param → List Member → List TableError
struct_failures types parameters fields =
    (clashes (names_of parameters) ++ clashes (member_names fields)) ++ members_failures (under types.named parameters) fields

abbrev pub struct_form : Types → List Param → List Member → Form
struct_form types parameters fields = F.Struct (fields_of (under types.named parameters) fields)

-- a union
abbrev pub union_failures : Types → List ℕ → List Param → List Member → List TableError
union_failures types name parameters constructors =
    clashes (names_of parameters) ++ members_failures (within_union types name parameters) constructors

abbrev pub union_form : Types → List ℕ → List Param → List Member → Form
union_form types name parameters constructors = F.Union (fields_of (within_union types name parameters) constructors)

-- an enum
abbrev pub enum_form : List Name → Form
enum_form members = F.Enum (map (λ member. member.text) members)

-- what is defined once one more definition is read
abbrev pub types_with : Types → Def → Types
types_with types (D.Alias place name parameters kind typ) = named_with types name.text (alias_type types parameters kind typ)
types_with types (D.Enum place name members) = with_form name.text [] (enum_form members) types
types_with types (D.Struct place name parameters fields) = with_form name.text parameters (struct_form types parameters fields) types
types_with types (D.Union place name parameters constructors) =
    with_form name.text parameters (union_form types name.text parameters constructors) types
types_with types d = types

-- the failures of a type's definition
abbrev pub type_failures : Types → Def → List TableError
type_failures types (D.Alias place name parameters kind typ) = alias_failures types parameters kind typ
type_failures types (D.Struct place name parameters fields) = struct_failures types parameters fields
type_failures types (D.Union place name parameters constructors) = union_failures types name.text parameters constructors
type_failures types d = []

-- ---- all definitions

-- what definitions define, behind those that are read
abbrev pub types_behind : Types → List Def → Types
types_behind types [] = types
types_behind types (d ∷ text) = types_behind (types_with types d) text

-- their failures
abbrev pub type_failures_behind : Types → List Def → List TableError
type_failures_behind types [] = []
type_failures_behind types (d ∷ text) = type_failures types d ++ type_failures_behind (types_with types d) text

-- what the definitions of a text define
abbrev pub types_of : List Def → Types
types_of text = types_behind builtin_types text

abbrev pub all_type_failures : List Def → List TableError
all_type_failures text = type_failures_behind builtin_types text

-- ---- what the code holds

abbrev pub held : Defined → Types
held defined = record { named = type_named defined.names; table = defined.table }

-- no union is being defined
abbrev pub IsBetween : Defined → Type 0
IsBetween defined = own_of defined.names ≡ None

-- where the members of a definition are read
abbrev pub around : Defined → List Param → Within
around defined parameters = record {
  types = type_named defined.names;
  own = own_of defined.names;
  is_in_list = false;
  variables = variables_of parameters;
}
