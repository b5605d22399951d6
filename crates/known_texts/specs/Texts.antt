-- What the definitions of a text give to its meaning, each name looked up (Sail language manual, "Functions", "Mappings", "Unions", "Overloading",
-- "Registers", "Let bindings").
use Rattle.std.specs.Prelude.{ℕ, suc, ◌+◌, bytes_eq, codes, List, [], ◌∷◌, ◌++◌, length, map, Option, Some, None, if◌then◌else◌, option_map}
use Rattle.sail_base.specs.declared.operators.Operator.{Operator}
use Rattle.sail_base.specs.declared.place.Place.{Place}
use Rattle.sail_syntax.specs.declared.expressions.Exp.{Exp}
use Rattle.sail_syntax.specs.declared.name.Name.{Name}
use Rattle.sail_syntax.specs.declared.definitions.Def.{Def}
use Rattle.sail_syntax.specs.declared.definitions.Def.TheVariants as D
use Rattle.sail_syntax.specs.declared.definitions.FunctionClause.{FunctionClause}
use Rattle.sail_syntax.specs.declared.definitions.MappingClause.{MappingClause}
use Rattle.sail_syntax.specs.declared.definitions.Overloaded.TheVariants as Over
use Rattle.sail_types.specs.Named.{constructors, members}
use Rattle.sail_types.specs.Rows.{row_members, row_named}
use Rattle.sail_types.specs.declared.rows.Row.{Row}
use Rattle.sail_types.specs.declared.table.Field.{Field}
use Rattle.sail_types.specs.declared.table.Types.{Types}
use Rattle.sail_types.specs.declared.types.Typ.{Typ}
use Rattle.model_state.specs.declared.state.Register.{Register}
use Rattle.sail_signatures.specs.declared.signature.Signature.{Signature}
use Rattle.sail_meaning.specs.Choice.{builtins, called_builtin}
use Rattle.sail_meaning.specs.Text.{Called, Callee, Function, Opening, Text, alone, constructor, direction, function, let_of, mapping, overload, register_of}
use Rattle.shape_rules.specs.Calls.{parameters_of, param_shapes}
use Rattle.shape_rules.specs.Written.{joined, typ_in}
use Rattle.shape_models.specs.Models.{Tabled, mapping_of, place_in_table, same_operator, within_variables}
use Rattle.shape_declarations.specs.Signatures.{number_parameters}
use Rattle.shape_clauses.specs.Functions.{measure_of}
use Rattle.body_meanings.specs.Directions.{backwards, forwards}
use Rattle.body_meanings.specs.Standing.{as_written}

-- ---- names in calls, in text order

-- a name that a definition gives a meaning, and what it is in a call, where it can be called
pub record Named : Type 0 where
  pub name : List ℕ
  pub called : Option Called

abbrev pub named : List ℕ → Option Called → Named
named name called = record { name = name; called = called }

-- a function, by what the tables say of its types and of the cycle of calls that it is in
abbrev pub function_of : Tabled → List Def → Place → List ℕ → List FunctionClause → Signature → Option ℕ → Function
function_of tabled text place name clauses s cycle = record {
  place = place;
  within = within_variables tabled s.variables;
  variables = length (number_parameters s.variables);
  parameters = parameters_of s.from;
  clauses = clauses;
  measure = option_map as_written (measure_of name text);
  cycle = cycle;
}

abbrev pub function_named : Tabled → List Def → Place → List ℕ → List FunctionClause → Option Signature → Option ℕ → List Named
function_named tabled text place name clauses None cycle = []
function_named tabled text place name clauses (Some s) cycle =
    named name (Some (alone (function (function_of tabled text place name clauses s cycle)))) ∷ []

-- a mapping with its two directions
abbrev pub directions_named : List ℕ → List MappingClause → Signature → List Named
directions_named name cs s =
    named (name ++ codes "_forwards") (Some (alone (direction (forwards (mapping_of name 0 s) cs))))
    ∷ named (name ++ codes "_backwards") (Some (alone (direction (backwards (mapping_of name 0 s) cs)))) ∷ []

abbrev pub mapping_named : List ℕ → List MappingClause → Option Signature → List Named
mapping_named name cs None = []
mapping_named name cs (Some s) =
    directions_named name cs s ++ named name (Some (mapping (forwards (mapping_of name 0 s) cs) (backwards (mapping_of name 0 s) cs))) ∷ []

-- constructors of the union of this place, from one on
abbrev pub constructors_named : ℕ → ℕ → List Field → List Named
constructors_named u k [] = []
constructors_named u k (f ∷ fs) = named f.name (Some (alone (constructor u k (param_shapes f.typ)))) ∷ constructors_named u (suc k) fs

abbrev pub union_named : Types → Option ℕ → List Named
union_named types None = []
union_named types (Some u) = constructors_named u 0 (constructors types u)

-- members of enums and registers aren't called
abbrev pub enum_named : Types → Option ℕ → List Named
enum_named types None = []
enum_named types (Some i) = map (λ name. named name None) (members types i)

abbrev pub def_named : Tabled → (List ℕ → Option ℕ) → List Def → Def → List Named
def_named tabled cycle text (D.Register place name typ initial) = named name.text None ∷ []
def_named tabled cycle text (D.Enum place name ms) = enum_named tabled.types (place_in_table tabled name.text)
def_named tabled cycle text (D.Union place name variables cs) = union_named tabled.types (place_in_table tabled name.text)
def_named tabled cycle text (D.Function place extent name clauses) =
    function_named tabled text place name.text clauses (tabled.signature name.text) (cycle name.text)
def_named tabled cycle text (D.Mapping place name sides cs) = mapping_named name.text cs (tabled.signature name.text)
def_named tabled cycle text d = []

-- `Some` and `None` stand before a text
abbrev pub all_named : Tabled → (List ℕ → Option ℕ) → List Def → List Named
all_named tabled cycle text = union_named tabled.types (Some 0) ++ joined (map (def_named tabled cycle text) text)

abbrev pub called_in : List Named → List ℕ → Option Called
called_in [] name = None
called_in (e ∷ es) name = if bytes_eq e.name name then e.called else called_in es name

-- ---- overloads

-- a member of an overload is a callee, or the members of a builtin
abbrev pub callee_in : Option Called → Option Callee
callee_in (Some (alone callee)) = Some callee
callee_in called = None

abbrev pub row_callees : Types → Option Row → List Callee
row_callees types None = []
row_callees types (Some row) = builtins (row_members types row)

abbrev pub callees_of : Types → Option Callee → Option Row → List Callee
callees_of types (Some callee) row = callee ∷ []
callees_of types None row = row_callees types row

abbrev pub members_named : Types → (List ℕ → Option Called) → List Name → List Callee
members_named types own names = joined (map (λ name. callees_of types (callee_in (own name.text)) (row_named name.text)) names)

abbrev pub adds_to_name : Types → (List ℕ → Option Called) → List ℕ → Def → List Callee
adds_to_name types own name (D.Overload place (Over.Named it) names) = if bytes_eq it.text name then members_named types own names else []
adds_to_name types own name d = []

abbrev pub adds_to_operator : Types → (List ℕ → Option Called) → Operator → Def → List Callee
adds_to_operator types own operator (D.Overload place (Over.Operator at it) names) =
    if same_operator it operator then members_named types own names else []
adds_to_operator types own operator d = []

-- ---- what a name means in a call: its definition, else a builtin, else an overload

abbrev pub or_row : Types → Option Called → Option Row → Option Called
or_row types (Some called) row = Some called
or_row types None None = None
or_row types None (Some row) = Some (called_builtin types row)

abbrev pub or_overload : Option Called → List Callee → Option Called
or_overload (Some called) callees = Some called
or_overload None [] = None
or_overload None (callee ∷ callees) = Some (overload (callee ∷ callees))

abbrev pub called_of : Types → (List ℕ → Option Called) → List Def → List ℕ → Option Called
called_of types own text name = or_overload (or_row types (own name) (row_named name)) (joined (map (adds_to_name types own name) text))

-- ---- registers, lets and initial values

abbrev pub register_if : List ℕ → Option Typ → List Register
register_if name None = []
register_if name (Some t) = record { name = name; typ = t } ∷ []

abbrev pub registers_by : Tabled → Def → List Register
registers_by tabled (D.Register place name typ initial) = register_if name.text (typ_in (within_variables tabled []) typ)
registers_by tabled d = []

abbrev pub initial_of : ℕ → Option Exp → List Opening
initial_of r None = []
initial_of r (Some value) = register_of r value ∷ []

-- behind so many registers
abbrev pub openings_from : ℕ → List Def → List Opening
openings_from r [] = []
openings_from r ((D.Let place p value) ∷ text) = let_of place p value ∷ openings_from r text
openings_from r ((D.Register place name typ initial) ∷ text) = initial_of r initial ++ openings_from (suc r) text
openings_from r (d ∷ text) = openings_from r text

-- ---- the text

-- each mapping goes both ways
abbrev pub directions_by : Def → ℕ
directions_by (D.Mapping place name sides cs) = 2
directions_by d = 0

abbrev pub directions_count : List Def → ℕ
directions_count [] = 0
directions_count (d ∷ text) = directions_by d + directions_count text

abbrev pub text_with : Tabled → (List ℕ → Option Called) → List Def → Text
text_with tabled own text = record {
  types = tabled.types;
  within = within_variables tabled [];
  called = called_of tabled.types own text;
  added = λ operator. joined (map (adds_to_operator tabled.types own operator) text);
  registers = joined (map (registers_by tabled) text);
  openings = openings_from 0 text;
  directions = directions_count text;
}

-- by what the tables say of types, signatures and cycles of calls
abbrev pub text_of : Tabled → (List ℕ → Option ℕ) → List Def → Text
text_of tabled cycle text = text_with tabled (called_in (all_named tabled cycle text)) text
