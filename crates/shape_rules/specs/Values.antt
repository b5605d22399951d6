-- What is found of literals, names, tuples, calls, operators, parts of values and structs (Sail language manual, "Expressions").
use Rattle.std.specs.Prelude.{ℕ, suc, ◌*◌, nat_eq, Bool, true, false, ◌&&◌, is_some}
use Rattle.std.specs.Prelude.{List, [], ◌∷◌, ◌++◌, length, map, slice_get, Option, Some, None, if◌then◌else◌}
use Rattle.sail_base.specs.declared.place.Place.{Place}
use Rattle.sail_base.specs.declared.operators.Operator.{Operator}
use Rattle.sail_base.specs.declared.operators.Operator.TheVariants as O
use Rattle.sail_base.specs.declared.operators.Prefix.{Prefix}
use Rattle.sail_base.specs.declared.kind.Kind.{Kind as AKind}
use Rattle.sail_base.specs.declared.kind.Kind.TheVariants as Sort
use Rattle.sail_syntax.specs.declared.name.Name.{Name}
use Rattle.sail_syntax.specs.declared.name.Literal.{Literal}
use Rattle.sail_syntax.specs.declared.types.TyExp.{TyExp}
use Rattle.sail_syntax.specs.declared.words.Brackets.{Brackets}
use Rattle.sail_syntax.specs.declared.words.Brackets.TheVariants as B
use Rattle.sail_syntax.specs.declared.words.Leaving.{Leaving}
use Rattle.sail_syntax.specs.declared.words.Leaving.TheVariants as Leave
use Rattle.sail_types.specs.Named.{fields}
use Rattle.sail_types.specs.Rows.{row_members}
use Rattle.sail_types.specs.Shapes.{shape, put, at}
use Rattle.sail_types.specs.declared.table.Definition.{Definition}
use Rattle.sail_types.specs.declared.table.Field.{Field}
use Rattle.sail_types.specs.declared.table.Parameter.{Parameter}
use Rattle.sail_types.specs.declared.shapes.Shape.{Shape, Shape-F, out-Shape}
use Rattle.sail_types.specs.declared.shapes.Shape.TheOpen as S
use Rattle.sail_types.specs.declared.shapes.Shape.TheVariants as V
use Rattle.sail_core.specs.declared.patterns.Literal.TheVariants as L
use Rattle.sail_core.specs.declared.tree.Callee.{Callee}
use Rattle.sail_core.specs.declared.tree.Callee.TheVariants as C
use Rattle.sail_core.specs.declared.tree.Kind.{Kind}
use Rattle.sail_core.specs.declared.tree.Kind.TheVariants as K
use Rattle.sail_core.specs.declared.tree.Core.{Core}
use Rattle.shape_joins.specs.Learning.{holes}
use Rattle.shape_rules.specs.declared.callees.Candidate.{Candidate}
use Rattle.shape_rules.specs.declared.callees.Doing.{Doing}
use Rattle.shape_rules.specs.declared.callees.Doing.TheVariants as D
use Rattle.shape_rules.specs.declared.callees.Mapping.{Mapping}
use Rattle.shape_rules.specs.declared.locals.Local.{Local}
use Rattle.shape_rules.specs.declared.error.ShapeError.{ShapeError}
use Rattle.shape_rules.specs.declared.error.ShapeError.TheVariants as error
use Rattle.shape_rules.specs.Findings.{Found, leaf, over, refused, unknown, behind, settled, given_on, cast, ill_shaped}
use Rattle.shape_rules.specs.Written.{shape_in, written, written_faults}
use Rattle.shape_rules.specs.declared.callees.Meant.{Meant}
use Rattle.shape_rules.specs.declared.callees.Meant.TheVariants as M
use Rattle.shape_rules.specs.Scopes.{Setting, Locals, thrown_shape}
use Rattle.shape_rules.specs.Calls.{Elaborate, Solved, solved, counted, unit_at, arguments_for, one_called}
use Rattle.shape_rules.specs.Calls.{several_called, is_unsure_of}
use Rattle.shape_rules.specs.Calls.{or_unit, row_called, member_candidate, operator_members, operator_text, prefix_members, prefix_text}
use Rattle.shape_rules.specs.Patterns.{literal_shape, core_literal}
use Rattle.shape_rules.specs.Patterns.{Which, forwards, backwards, neither, either, which_side, overlap_at}
use Rattle.shape_rules.specs.Targets.{Part, elaborations, IndexPart, SuffixPart, field_part, at_part, InStruct, field_in, Walked, walked}
use Rattle.shape_rules.specs.Targets.{cores_of, faults_of, led_index, Led, led_shape, base_faults, index_found}

-- ---- literals and names

abbrev pub constant_found : Place → Literal → Shape → Found
constant_found place literal want = settled place want (literal_shape literal) (λ s. leaf place (K.Constant (core_literal literal)))

abbrev pub local_kind : Local → Kind
local_kind local = if local.is_variable then K.Variable local.name else K.Local local.name

-- a name that no local has
abbrev pub global_found : Place → Option Meant → Shape → Found
global_found place (Some (M.Register r s)) want = settled place want s (λ t. leaf place (K.Register r))
global_found place (Some (M.Let i s)) want = settled place want s (λ t. leaf place (K.TopLevel i))
global_found place (Some (M.Member i k)) want = settled place want (V.Named i []) (λ t. leaf place (K.Constant (L.Member i k)))
global_found place meant want = unknown place

abbrev pub name_found : Name → Option Local → Option Meant → Shape → Found
name_found name (Some local) meant want = settled name.place want local.shape (λ s. leaf name.place (local_kind local))
name_found name None meant want = global_found name.place meant want

-- `()`
abbrev pub unit_found : Place → Elaborate
unit_found place = unit_at (leaf place (K.Constant L.Unit)) place

-- ---- tuples, vectors, lists

-- parts, each with the shape that is wanted of it; with none wanted, where there are no more
pub record Parts : Type 0 where
  pub shapes : List Shape
  pub cores : List Core
  pub faults : List ShapeError

abbrev pub also_part : Found → Parts → Parts
also_part a more = record { shapes = a.shape ∷ more.shapes; cores = a.core ∷ more.cores; faults = a.faults ++ more.faults }

abbrev pub parts_found : List Elaborate → Setting → Locals → List Shape → Parts
parts_found [] setting locals wants = record { shapes = []; cores = []; faults = [] }
parts_found (e ∷ es) setting locals [] = also_part (e setting locals V.Never) (parts_found es setting locals [])
parts_found (e ∷ es) setting locals (want ∷ wants) = also_part (e setting locals want) (parts_found es setting locals wants)

-- what is wanted of the parts of a tuple of so many
abbrev pub tuple_wants : ℕ → Shape-F Shape → List Shape
tuple_wants count (S.Tuple ss) = if nat_eq count (length ss) then ss else []
tuple_wants count form = []

abbrev pub tuple_found : Place → Shape → Parts → Found
tuple_found place want parts = behind parts.faults (settled place want (V.Tuple parts.shapes) (λ s. over place K.Tuple parts.cores))

-- the first item or branch that has a shape gives it to the others
pub record Chained : Type 0 where
  pub shape : Shape
  pub cores : List Core
  pub faults : List ShapeError

abbrev pub also_chained : Found → Chained → Chained
also_chained a more = record { shape = more.shape; cores = a.core ∷ more.cores; faults = a.faults ++ more.faults }

abbrev pub chained_behind : Found → Shape → (Shape → Chained) → Chained
chained_behind a want next = also_chained a (next (given_on want a.shape))

abbrev pub chained : List Elaborate → Setting → Locals → Shape → Chained
chained [] setting locals want = record { shape = want; cores = []; faults = [] }
chained (e ∷ es) setting locals want = chained_behind (e setting locals want) want (chained es setting locals)

abbrev pub vector_want : Shape-F Shape → Shape
vector_want (S.Vector s) = s
vector_want form = V.Never

abbrev pub list_want : Shape-F Shape → Shape
list_want (S.List s) = s
list_want form = V.Never

abbrev pub vector_found : Place → Shape → Chained → Found
vector_found place want items =
    behind items.faults (settled place want (V.Vector items.shape) (λ s. over place (K.Vector (vector_want (out-Shape s))) items.cores))

-- only an empty list has a hole for its items
abbrev pub item_shape : List Elaborate → Shape → Shape
item_shape [] s = V.Hole
item_shape (e ∷ es) s = s

abbrev pub list_found : Place → Shape → Shape → Chained → Found
list_found place want item items =
    behind items.faults (settled place want (V.List item) (λ s. over place (K.List (list_want (out-Shape s))) items.cores))

abbrev pub group_found : Place → Brackets → List Elaborate → Elaborate
group_found place B.Tuple [] setting locals want = unit_found place setting locals want
group_found place B.Tuple es setting locals want =
    tuple_found place want (parts_found es setting locals (tuple_wants (length es) (out-Shape want)))
group_found place B.Vector es setting locals want = vector_found place want (chained es setting locals (vector_want (out-Shape want)))
group_found place B.List es setting locals want =
    list_found place want (item_shape es (chained es setting locals (list_want (out-Shape want))).shape)
    (chained es setting locals (list_want (out-Shape want)))

-- ---- calls

-- a mapping takes one value, a tuple where several arguments are written; its direction goes by the side that fits
abbrev pub as_one : Place → List Part → Part
as_one place [] = record { place = place; elaborate = unit_found place }
as_one place (a ∷ []) = a
as_one place parts = record { place = place; elaborate = group_found place B.Tuple (elaborations parts) }

abbrev pub direction_found : Place → Shape → ℕ → Shape → Found → Found
direction_found place want direction answer a =
    behind a.faults (settled place want answer (λ s. over place (K.Call (C.Converts direction)) (a.core ∷ [])))

-- which way it goes hangs on a part that failed
abbrev pub one_way : Place → Shape → ℕ → Shape → Found → Found
one_way place want direction answer a =
    if is_unsure_of a then behind a.faults (unknown place) else direction_found place want direction answer a

abbrev pub mapping_found : Place → Place → Shape → Mapping → Found → Which → Found
mapping_found place at_arg want m a forwards = one_way place want (2 * m.number) (shape m.right) a
mapping_found place at_arg want m a backwards = one_way place want (suc (2 * m.number)) (shape m.left) a
mapping_found place at_arg want m a neither = behind a.faults (refused (ill_shaped at_arg))
mapping_found place at_arg want m a either = behind a.faults (refused (overlap_at place m))

abbrev pub mapping_called : Place → Mapping → Part → Elaborate
mapping_called place m part setting locals want =
    mapping_found place part.place want m (part.elaborate setting locals V.Never) (which_side m (part.elaborate setting locals V.Never).shape)

-- a direction takes one value too
abbrev pub is_direction_callee : Callee → Bool
is_direction_callee (C.Converts d) = true
is_direction_callee callee = false

abbrev pub does_convert : Doing → Bool
does_convert (D.Calls callee) = is_direction_callee callee
does_convert D.Conses = false

abbrev pub callee_called : Place → Candidate → List Part → Elaborate
callee_called place f args =
    if does_convert f.doing then one_called place f ((as_one place args).elaborate ∷ [])
    else one_called place f (arguments_for (unit_found place) f.params (elaborations args))

-- a call by the name of its callee
abbrev pub name_called : Name → Option Meant → List Part → Elaborate
name_called name (Some (M.Callee f)) args setting locals want = callee_called name.place f args setting locals want
name_called name (Some (M.Row row)) args setting locals want =
    row_called name.place name.text (map member_candidate (row_members setting.types row)) (unit_found name.place) (elaborations args) setting locals want
name_called name (Some (M.Mapping m)) args setting locals want = mapping_called name.place m (as_one name.place args) setting locals want
name_called name (Some (M.Overload fs)) args setting locals want =
    several_called name.place name.text fs (or_unit (unit_found name.place) (elaborations args)) setting locals want
name_called name meant args setting locals want = unknown name.place

abbrev pub call_named : Name → List Part → Elaborate
call_named name args setting = name_called name (setting.value name.text) args setting

-- ---- operators

abbrev pub logical_kind : Operator → Option Kind
logical_kind O.And = Some K.And
logical_kind O.Or = Some K.Or
logical_kind operator = None

-- a truth, or what fits every shape
abbrev pub is_truth_form : Shape-F Shape → Bool
is_truth_form S.Bool = true
is_truth_form S.Never = true
is_truth_form form = false

abbrev pub logical_found : Place → Kind → Shape → Found → Found → Found
logical_found place kind want a b = behind (a.faults ++ b.faults) (settled place want V.Bool (λ s. over place kind (a.core ∷ b.core ∷ [])))

-- `&` and `|` look at the left operand first: on a truth the right one is a truth too, and no member is looked at
abbrev pub is_variable_form : Shape-F Shape → Bool
is_variable_form (S.Variable i) = true
is_variable_form form = false

-- of a type variable it isn't known whether it is a truth (M16)
abbrev pub undecided : Place → Operator → Found → Found → Found
undecided place operator a b = behind (a.faults ++ b.faults) (refused (error.NoMember place (operator_text operator)))

abbrev pub infix_as : Place → Operator → Part → Part → Option Kind → Elaborate
infix_as place operator a b None setting locals want =
    several_called place (operator_text operator) (operator_members setting operator) (a.elaborate ∷ b.elaborate ∷ []) setting locals want
infix_as place operator a b (Some kind) setting locals want =
    if is_truth_form (out-Shape (a.elaborate setting locals V.Never).shape)
    then logical_found place kind want (a.elaborate setting locals V.Never) (b.elaborate setting locals V.Bool)
    else if is_variable_form (out-Shape (a.elaborate setting locals V.Never).shape)
    then undecided place operator (a.elaborate setting locals V.Never) (b.elaborate setting locals V.Never)
    else several_called place (operator_text operator) (operator_members setting operator) (a.elaborate ∷ b.elaborate ∷ []) setting locals want

abbrev pub infix_found : Place → Operator → Part → Part → Elaborate
infix_found place operator a b = infix_as place operator a b (logical_kind operator)

abbrev pub prefix_found : Place → Prefix → Part → Elaborate
prefix_found place prefix a setting = several_called place (prefix_text prefix) (prefix_members setting prefix) (a.elaborate ∷ []) setting

-- ---- leaving

abbrev pub left_found : Place → Kind → Shape → Place → Found → Found
left_found place kind want part_place a = behind a.faults (settled place want V.Never (λ s. over place kind (cast a.core part_place ∷ [])))

-- without a function around it a `return` is ill-shaped
abbrev pub return_found : Place → Part → Option Shape → Elaborate
return_found place a None setting locals want = refused (ill_shaped place)
return_found place a (Some s) setting locals want = left_found place K.Return want a.place (a.elaborate setting locals s)

abbrev pub leave_found : Place → Leaving → Part → Elaborate
leave_found place Leave.Return a setting locals want = return_found place a setting.answer setting locals want
leave_found place Leave.Throw a setting locals want = left_found place K.Throw want a.place (a.elaborate setting locals (thrown_shape setting))
leave_found place Leave.Exit a setting locals want = left_found place K.Exit want a.place (a.elaborate setting locals V.Unit)

-- ---- parts of values

abbrev pub last_place : Place → List SuffixPart → Place
last_place first [] = first
last_place first (field_part name ∷ []) = first
last_place first (at_part place index ∷ []) = place
last_place first (suffix ∷ next ∷ more) = last_place first (next ∷ more)

abbrev pub part_with : Place → Shape → Found → Walked → Found
part_with place want a ways = behind (a.faults ++ ways.faults) (settled place want ways.shape (λ s. over place (K.Part ways.suffixes) (a.core ∷ ways.parts)))

abbrev pub part_of : Place → Part → List SuffixPart → Found → Elaborate
part_of first base suffixes a setting locals want =
    part_with (last_place first suffixes) want a (walked suffixes setting locals first base.place a.shape)

abbrev pub part_found : Place → Part → List SuffixPart → Elaborate
part_found first base suffixes setting locals = part_of first base suffixes (base.elaborate setting locals V.Never) setting locals

abbrev pub typed_found : Place → Part → TyExp → Elaborate
typed_found place a typ setting locals want =
    behind ((a.elaborate setting locals (shape_in setting.within typ)).faults ++ written_faults setting.within typ)
    (settled place want (shape_in setting.within typ)
    (λ s. over place (K.Cast (written setting.within typ)) ((a.elaborate setting locals (shape_in setting.within typ)).core ∷ [])))

abbrev pub updated_led : IndexPart → Shape → Option Led
updated_led index s = led_index index.last (out-Shape s)

abbrev pub update_kind : Option Part → Kind
update_kind None = K.WithItem
update_kind (Some low) = K.WithSlice

-- the one index, or both ends of a slice
abbrev pub ends_found : IndexPart → Setting → Locals → List Found
ends_found index setting locals = index_found (Some index.first) setting locals ++ index_found index.last setting locals

-- a vector with another item is one of what both come to
abbrev pub updated_shape : Option Part → Shape-F Shape → Shape → Shape → Shape
updated_shape None (S.Vector s) base found = V.Vector (given_on s found)
updated_shape last form base found = base

abbrev pub updated : Place → Shape → Kind → Option Part → Found → List ShapeError → List Found → Found → Found
updated place want kind last a base ends value =
    behind (((a.faults ++ base) ++ faults_of ends) ++ value.faults)
    (settled place want (updated_shape last (out-Shape a.shape) a.shape value.shape) (λ s. over place kind (a.core ∷ cores_of ends ++ value.core ∷ [])))

abbrev pub update_with : Place → Place → IndexPart → Part → Found → Option Led → Elaborate
update_with place at_base index value a led setting locals want =
    updated place want (update_kind index.last) index.last a (base_faults at_base a.shape led) (ends_found index setting locals)
    (value.elaborate setting locals (led_shape led))

abbrev pub update_of : Place → Part → IndexPart → Part → Found → Elaborate
update_of place base index value a = update_with place base.place index value a (updated_led index a.shape)

abbrev pub update_found : Place → Part → IndexPart → Part → Elaborate
update_found place base index value setting locals = update_of place base index value (base.elaborate setting locals V.Never) setting locals

-- ---- structs

-- a field with its value
pub record FieldPart : Type 0 where
  pub name : Name
  pub value : Part

abbrev pub values_of : List FieldPart → List Elaborate
values_of fs = map (λ f. f.value.elaborate) fs

-- the fields of these names, by their places, with their shapes over the struct's variables
pub record Named : Type 0 where
  pub places : List ℕ
  pub shapes : List Shape

abbrev pub also_named : Option InStruct → Option Named → Option Named
also_named (Some f) (Some more) = Some (record { places = f.place ∷ more.places; shapes = shape f.typ ∷ more.shapes })
also_named f more = None

abbrev pub fields_named : List FieldPart → Option (List Field) → Option Named
fields_named [] known = Some (record { places = []; shapes = [] })
fields_named (f ∷ fs) known = also_named (field_in f.name.text known) (fields_named fs known)

abbrev pub field_count : Option (List Field) → ℕ
field_count None = 0
field_count (Some fs) = length fs

abbrev pub is_type_kind : AKind → Bool
is_type_kind Sort.Type = true
is_type_kind kind = false

abbrev pub type_parameters : List Parameter → ℕ
type_parameters [] = 0
type_parameters (p ∷ ps) = if is_type_kind p.kind then suc (type_parameters ps) else type_parameters ps

abbrev pub variables_if : Option Definition → ℕ
variables_if None = 0
variables_if (Some d) = type_parameters d.parameters

abbrev pub variables_of_type : Setting → ℕ → ℕ
variables_of_type setting i = variables_if (slice_get setting.types.definitions i)

abbrev pub struct_solved : Place → Shape → ℕ → List ℕ → Solved → Found
struct_solved place want i places args = behind args.faults (settled place want (V.Named i args.known) (λ s. over place (K.Struct i places) args.cores))

-- all fields of the struct, and no others (M15)
abbrev pub struct_named : Place → ℕ → List FieldPart → Option Named → Elaborate
struct_named place i fs None setting locals want =
    refused (error.Arity place (field_count (fields setting.types i)) (length fs))
struct_named place i fs (Some named) setting locals want =
    counted place (field_count (fields setting.types i)) (length fs)
    (struct_solved place want i named.places (solved (values_of fs) setting locals named.shapes (holes (variables_of_type setting i))))

abbrev pub struct_at : Place → List FieldPart → Option ℕ → Elaborate
struct_at place fs None setting locals want = refused (ill_shaped place)
struct_at place fs (Some i) setting locals want = struct_named place i fs (fields_named fs (fields setting.types i)) setting locals want

-- whether a struct has just these fields
abbrev pub has_just : List FieldPart → Option (List Field) → Bool
has_just fs known = is_some known && (is_some (fields_named fs known) && nat_eq (field_count known) (length fs))

abbrev pub structs_from : Setting → List FieldPart → ℕ → List Definition → List ℕ
structs_from setting fs i [] = []
structs_from setting fs i (d ∷ ds) =
    if has_just fs (fields setting.types i) then i ∷ structs_from setting fs (suc i) ds else structs_from setting fs (suc i) ds

abbrev pub only_one : List ℕ → Option ℕ
only_one (i ∷ []) = Some i
only_one places = None

-- without a name it is the one struct that has just these fields, whatever is wanted
abbrev pub struct_place : Setting → Option Name → List FieldPart → Option ℕ
struct_place setting None fs = only_one (structs_from setting fs 0 setting.types.definitions)
struct_place setting (Some name) fs = setting.struct_named name.text

abbrev pub struct_found : Place → Option Name → List FieldPart → Elaborate
struct_found place name fs setting = struct_at place fs (struct_place setting name fs) setting

abbrev pub named_place : Shape-F Shape → Option (ℕ × List Shape)
named_place (S.Named i ss) = Some (i, ss)
named_place form = None

abbrev pub with_values : Place → Shape → ℕ → Found → List ℕ → Solved → Found
with_values place want i a places args =
    behind (a.faults ++ args.faults) (settled place want (V.Named i args.known) (λ s. over place (K.With i places) (a.core ∷ args.cores)))

-- a base that isn't a struct with these fields (M14), unless it never ends: then what comes behind it isn't reached
abbrev pub with_failed : Place → Place → List FieldPart → Found → Elaborate
with_failed place at_base fs a setting locals want =
    behind ((a.faults ++ base_faults at_base a.shape None) ++ (parts_found (values_of fs) setting locals []).faults)
    (settled place want V.Never (λ s. over place (K.With 0 []) (a.core ∷ (parts_found (values_of fs) setting locals []).cores)))

abbrev pub with_named : Place → Place → List FieldPart → Found → ℕ → List Shape → Option Named → Elaborate
with_named place at_base fs a i ss None setting locals want = with_failed place at_base fs a setting locals want
with_named place at_base fs a i ss (Some named) setting locals want =
    with_values place want i a named.places (solved (values_of fs) setting locals named.shapes ss)

abbrev pub with_of : Place → Place → List FieldPart → Found → Option (ℕ × List Shape) → Elaborate
with_of place at_base fs a None setting locals want = with_failed place at_base fs a setting locals want
with_of place at_base fs a (Some named) setting locals want =
    with_named place at_base fs a named.0 named.1 (fields_named fs (fields setting.types named.0)) setting locals want

abbrev pub with_base : Place → Place → List FieldPart → Found → Elaborate
with_base place at_base fs a = with_of place at_base fs a (named_place (out-Shape a.shape))

abbrev pub with_found : Place → Part → List FieldPart → Elaborate
with_found place base fs setting locals = with_base place base.place fs (base.elaborate setting locals V.Never) setting locals
