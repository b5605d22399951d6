-- What each name of a value means in a whole model, and where its expressions stand (Sail language manual, "Functions", "Mappings",
-- "Overloading", "Registers", "Enums").
use Rattle.std.specs.Prelude.{ℕ, zero, suc, ◌*◌, nat_eq, Bool, true, false, bytes_eq, codes, List, [], ◌∷◌, ◌++◌, map}
use Rattle.std.specs.Prelude.{slice_get, Option, Some, None, if◌then◌else◌}
use Rattle.std.specs.Option.{option_or}
use Rattle.sail_base.specs.declared.place.Place.{Place}
use Rattle.sail_base.specs.declared.operators.Operator.{Operator}
use Rattle.sail_base.specs.declared.operators.Operator.TheVariants as O
use Rattle.sail_base.specs.declared.kind.Kind.{Kind as AKind}
use Rattle.sail_base.specs.declared.kind.Kind.TheVariants as Sort
use Rattle.sail_syntax.specs.declared.name.Name.{Name}
use Rattle.sail_syntax.specs.declared.definitions.Def.{Def}
use Rattle.sail_syntax.specs.declared.definitions.Def.TheVariants as D
use Rattle.sail_syntax.specs.declared.definitions.Param.{Param}
use Rattle.sail_syntax.specs.declared.definitions.Overloaded.TheVariants as Over
use Rattle.sail_types.specs.Named.{constructors, in_form, members}
use Rattle.sail_types.specs.Rows.{row_named, row_members, members_of, operator_rows}
use Rattle.sail_types.specs.Shapes.{shape}
use Rattle.sail_types.specs.Sums.{and_then}
use Rattle.sail_types.specs.declared.rows.Row.{Row}
use Rattle.sail_types.specs.declared.types.Typ.{Typ}
use Rattle.sail_types.specs.declared.table.Types.{Types}
use Rattle.sail_types.specs.declared.table.Field.{Field}
use Rattle.sail_types.specs.declared.table.Form.{Form}
use Rattle.sail_types.specs.declared.table.Form.TheVariants as F
use Rattle.sail_types.specs.declared.shapes.Shape.{Shape}
use Rattle.sail_types.specs.declared.shapes.Shape.TheVariants as V
use Rattle.sail_kinds.specs.declared.scope.NamedType.{NamedType}
use Rattle.sail_kinds.specs.declared.scope.Variable.{Variable}
use Rattle.sail_kinds.specs.Scopes.{Within}
use Rattle.sail_signatures.specs.declared.signature.Signature.{Signature}
use Rattle.sail_core.specs.declared.tree.Callee.TheVariants as C
use Rattle.shape_rules.specs.declared.callees.Candidate.{Candidate}
use Rattle.shape_rules.specs.declared.callees.Doing.TheVariants as Does
use Rattle.shape_rules.specs.declared.callees.Mapping.{Mapping}
use Rattle.shape_rules.specs.declared.callees.Meant.{Meant}
use Rattle.shape_rules.specs.declared.callees.Meant.TheVariants as M
use Rattle.shape_rules.specs.declared.locals.Local.{Local}
use Rattle.shape_rules.specs.declared.error.ShapeError.{ShapeError}
use Rattle.shape_rules.specs.Written.{joined, shape_in}
use Rattle.shape_rules.specs.Scopes.{Setting, defined_place}
use Rattle.sail_base.specs.Operators.{number_of}
use Rattle.shape_rules.specs.Calls.{param_shapes, member_candidate, builtin_members}
use Rattle.shape_models.specs.declared.clashes.Added.{Added}
use Rattle.shape_models.specs.declared.entries.Entry.{Entry}
use Rattle.shape_models.specs.declared.overloads.Overload.{Overload}
use Rattle.shape_models.specs.declared.entries.Counts.{Counts}
use Rattle.shape_models.specs.Overloads.{placed, overload_faults}

-- ---- what the tables say of a text

pub record Tabled : Type 0 where
  pub named : List ℕ → Option NamedType
  pub types : Types
  pub signature : List ℕ → Option Signature

-- types are read within the type variables of the function or mapping of a name
abbrev pub signed_variables : Option Signature → List Variable
signed_variables None = []
signed_variables (Some s) = s.variables

abbrev pub within_variables : Tabled → List Variable → Within
within_variables tabled variables = record { types = tabled.named; own = None; is_in_list = false; variables = variables }

abbrev pub params_variables : List Param → List Variable
params_variables ps = map (λ p. record { name = p.name.text; kind = p.kind }) ps

-- the place in the table of what a name is defined as
abbrev pub place_of_type : Option NamedType → Option ℕ
place_of_type found = and_then found (λ t. defined_place t.meaning)

abbrev pub place_in_table : Tabled → List ℕ → Option ℕ
place_in_table tabled name = place_of_type (tabled.named name)

abbrev pub form_is_union : Form → Bool
form_is_union (F.Union constructors) = true
form_is_union form = false

-- whether a union has this place in the table
abbrev pub is_union : Types → ℕ → Bool
is_union types i = in_form false form_is_union (slice_get types.definitions i)

abbrev pub if_union : Types → ℕ → Option ℕ
if_union types i = if is_union types i then Some i else None

-- the place in the table of the union `exception`, whose values are thrown; none where no union has this name (Sail language manual, "Exceptions")
abbrev pub exception_in : Tabled → Option ℕ
exception_in tabled = and_then (place_in_table tabled (codes "exception")) (if_union tabled.types)

-- ---- candidates

abbrev pub is_type_variable : AKind → Bool
is_type_variable Sort.Type = true
is_type_variable kind = false

abbrev pub type_variables : List Variable → ℕ
type_variables [] = 0
type_variables (v ∷ vs) = if is_type_variable v.kind then suc (type_variables vs) else type_variables vs

abbrev pub function_candidate : List ℕ → ℕ → Signature → Candidate
function_candidate name n s = record {
  name = name;
  doing = Does.Calls (C.Function n);
  variables = type_variables s.variables;
  params = param_shapes s.from;
  answer = shape s.to;
}

-- a direction takes and gives one value
abbrev pub direction_candidate : List ℕ → ℕ → Typ → Typ → Candidate
direction_candidate name d from to = record {
  name = name;
  doing = Does.Calls (C.Converts d);
  variables = 0;
  params = shape from ∷ [];
  answer = shape to;
}

-- so many variables, in order
abbrev pub variables_from : ℕ → ℕ → List Shape
variables_from i zero = []
variables_from i (suc count) = V.Variable i ∷ variables_from (suc i) count

abbrev pub constructor_candidate : ℕ → ℕ → ℕ → Field → Candidate
constructor_candidate u k count payload = record {
  name = payload.name;
  doing = Does.Calls (C.Constructor u k);
  variables = count;
  params = param_shapes payload.typ;
  answer = V.Named u (variables_from 0 count);
}

-- ---- names of values, in text order

abbrev pub entry : List ℕ → Meant → Entry
entry name meant = record { name = name; meant = meant }

abbrev pub meant_in : List Entry → List ℕ → Option Meant
meant_in [] name = None
meant_in (e ∷ es) name = if bytes_eq e.name name then Some e.meant else meant_in es name

abbrev pub constructors_from : ℕ → ℕ → ℕ → List Field → List Entry
constructors_from u count k [] = []
constructors_from u count k (f ∷ fs) = entry f.name (M.Callee (constructor_candidate u k count f)) ∷ constructors_from u count (suc k) fs

abbrev pub members_from : ℕ → ℕ → List (List ℕ) → List Entry
members_from i k [] = []
members_from i k (m ∷ ms) = entry m (M.Member i k) ∷ members_from i (suc k) ms

abbrev pub function_entry : List ℕ → ℕ → Option Signature → List Entry
function_entry name n None = []
function_entry name n (Some s) = entry name (M.Callee (function_candidate name n s)) ∷ []

-- a mapping with its two directions
abbrev pub mapping_of : List ℕ → ℕ → Signature → Mapping
mapping_of name n s = record { number = n; name = name; left = s.from; right = s.to }

abbrev pub direction_entry : List ℕ → ℕ → Typ → Typ → Entry
direction_entry name d from to = entry name (M.Callee (direction_candidate name d from to))

abbrev pub directions_entries : List ℕ → ℕ → Signature → List Entry
directions_entries name n s =
    direction_entry (name ++ codes "_forwards") (2 * n) s.from s.to
    ∷ direction_entry (name ++ codes "_backwards") (suc (2 * n)) s.to s.from ∷ []

abbrev pub mapping_entries : List ℕ → ℕ → Option Signature → List Entry
mapping_entries name n None = []
mapping_entries name n (Some s) = directions_entries name n s ++ entry name (M.Mapping (mapping_of name n s)) ∷ []

abbrev pub enum_entries : Tabled → Option ℕ → List Entry
enum_entries tabled None = []
enum_entries tabled (Some i) = members_from i 0 (members tabled.types i)

abbrev pub union_entries : Tabled → ℕ → Option ℕ → List Entry
union_entries tabled count None = []
union_entries tabled count (Some u) = constructors_from u count 0 (constructors tabled.types u)

abbrev pub def_entries : Tabled → Counts → Def → List Entry
def_entries tabled counts (D.Register place name typ initial) =
    entry name.text (M.Register counts.registers (shape_in (within_variables tabled []) typ)) ∷ []
def_entries tabled counts (D.Enum place name ms) = enum_entries tabled (place_in_table tabled name.text)
def_entries tabled counts (D.Union place name variables cs) =
    union_entries tabled (type_variables (params_variables variables)) (place_in_table tabled name.text)
def_entries tabled counts (D.Function place extent name clauses) = function_entry name.text counts.functions (tabled.signature name.text)
def_entries tabled counts (D.Mapping place name sides clauses) = mapping_entries name.text counts.mappings (tabled.signature name.text)
def_entries tabled counts d = []

abbrev pub counts_with : Counts → Def → Counts
counts_with counts (D.Register place name typ initial) = record counts { registers = suc counts.registers }
counts_with counts (D.Function place extent name clauses) = record counts { functions = suc counts.functions }
counts_with counts (D.Mapping place name sides clauses) = record counts { mappings = suc counts.mappings }
counts_with counts d = counts

abbrev pub entries_from : Tabled → Counts → List Def → List Entry
entries_from tabled counts [] = []
entries_from tabled counts (d ∷ text) = def_entries tabled counts d ++ entries_from tabled (counts_with counts d) text

abbrev pub no_counts : Counts
no_counts = record { functions = 0; mappings = 0; registers = 0 }

-- `Some` and `None` stand before a text
abbrev pub entries : Tabled → List Def → List Entry
entries tabled text = union_entries tabled 1 (Some 0) ++ entries_from tabled no_counts text

-- ---- overloads, by what the definitions of names mean

abbrev pub Own : Type 0
Own = List ℕ → Option Meant

abbrev pub callee_in : Option Meant → Option Candidate
callee_in (Some (M.Callee f)) = Some f
callee_in meant = None

abbrev pub row_candidates : Types → Option Row → List Candidate
row_candidates types None = []
row_candidates types (Some row) = map member_candidate (row_members types row)

-- what a member of an overload is: a callee, or the members of a builtin
abbrev pub candidates_of : Types → Option Candidate → Option Row → List Candidate
candidates_of types (Some f) row = f ∷ []
candidates_of types None row = row_candidates types row

abbrev pub member_of : Types → Own → Name → List Candidate
member_of types own name = candidates_of types (callee_in (own name.text)) (row_named name.text)

abbrev pub members_at : Types → Own → Place → List Name → List Added
members_at types own place names = joined (map (λ name. map (placed (Some place)) (member_of types own name)) names)

abbrev pub adds_to_name : Types → Own → List ℕ → Def → List Added
adds_to_name types own name (D.Overload place (Over.Named it) names) =
    if bytes_eq it.text name then members_at types own place names else []
adds_to_name types own name d = []

abbrev pub same_operator : Operator → Operator → Bool
same_operator a b = nat_eq (number_of a) (number_of b)

abbrev pub adds_to_operator : Types → Own → Operator → Def → List Added
adds_to_operator types own operator (D.Overload place (Over.Operator at it) names) =
    if same_operator it operator then members_at types own place names else []
adds_to_operator types own operator d = []

abbrev pub added_to_name : Types → Own → List Def → List ℕ → List Added
added_to_name types own text name = joined (map (adds_to_name types own name) text)

abbrev pub added_to_operator : Types → Own → List Def → Operator → List Added
added_to_operator types own text operator = joined (map (adds_to_operator types own operator) text)

abbrev pub operator_added : Types → Own → List Def → Operator → List Added
operator_added types own text operator =
    map (placed None) (builtin_members operator ++ map member_candidate (members_of types (operator_rows operator)))
    ++ added_to_operator types own text operator

abbrev pub candidates : List Added → List Candidate
candidates added = map (λ a. a.member) added

abbrev pub operators : List Operator
operators =
    O.Caret ∷ O.Star ∷ O.ShiftLeft ∷ O.ShiftRight ∷ O.Plus ∷ O.Minus ∷ O.Append ∷ O.Cons ∷ O.Equal ∷ O.NotEqual ∷ O.Less ∷ O.LessEqual
    ∷ O.Greater ∷ O.GreaterEqual ∷ O.LessUnsigned ∷ O.LessEqualUnsigned ∷ O.GreaterUnsigned ∷ O.GreaterEqualUnsigned ∷ O.LessSigned
    ∷ O.LessEqualSigned ∷ O.GreaterSigned ∷ O.GreaterEqualSigned ∷ O.And ∷ O.Or ∷ []

-- the overloads of names, a name for each definition that adds to it
abbrev pub overload_of : Types → Own → List Def → List ℕ → Overload
overload_of types own text name = record { name = name; added = added_to_name types own text name }

abbrev pub overloads_by : Types → Own → List Def → Def → List Overload
overloads_by types own text (D.Overload place (Over.Named name) names) = overload_of types own text name.text ∷ []
overloads_by types own text d = []

abbrev pub overloads_in : Types → Own → List Def → List Overload
overloads_in types own text = joined (map (overloads_by types own text) text)

abbrev pub named_faults : List Overload → List ShapeError
named_faults named = joined (map (λ o. overload_faults o.added) named)

-- failures of overloads: those of each name once for each definition that adds to it, which doesn't matter to the first of them, and
-- those of each operator
abbrev pub overloads_faults : Types → Own → List Def → List ShapeError
overloads_faults types own text =
    named_faults (overloads_in types own text)
    ++ joined (map (λ operator. overload_faults (operator_added types own text operator)) operators)

-- ---- what a name means

abbrev pub or_overload : Option Meant → List Candidate → Option Meant
or_overload (Some meant) fs = Some meant
or_overload None [] = None
or_overload None (f ∷ fs) = Some (M.Overload (f ∷ fs))

abbrev pub or_row : Option Meant → Option Row → Option Meant
or_row (Some meant) row = Some meant
or_row None None = None
or_row None (Some row) = Some (M.Row row)

-- the names that top-level lets have bound, in order
abbrev pub let_in : ℕ → List Local → List ℕ → Option Meant
let_in i [] name = None
let_in i (l ∷ ls) name = if bytes_eq l.name name then Some (M.Let i l.shape) else let_in (suc i) ls name

abbrev pub value_of : Types → Own → List Def → List Local → List ℕ → Option Meant
value_of types own text lets name =
    or_overload (or_row (option_or (own name) (let_in 0 lets name)) (row_named name)) (candidates (added_to_name types own text name))

-- ---- settings

-- what directions give
abbrev pub gives_of : Option Signature → List Typ
gives_of None = []
gives_of (Some s) = s.to ∷ s.from ∷ []

abbrev pub gives_by : Tabled → Def → List Typ
gives_by tabled (D.Mapping place name sides clauses) = gives_of (tabled.signature name.text)
gives_by tabled d = []

abbrev pub directions_give : Tabled → List Def → List Typ
directions_give tabled text = joined (map (gives_by tabled) text)

abbrev pub setting_of : Tabled → Own → List Def → List Local → List Variable → Setting
setting_of tabled own text lets variables = record {
  types = tabled.types;
  within = within_variables tabled variables;
  value = value_of tabled.types own text lets;
  added = λ operator. candidates (added_to_operator tabled.types own text operator);
  exception = exception_in tabled;
  struct_named = place_in_table tabled;
  given_by = slice_get (directions_give tabled text);
  answer = None;
}
