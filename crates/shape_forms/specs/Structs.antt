-- What the code holds of the fields of struct literals, and what is made of them.
use Rattle.std.specs.Prelude.{ℕ, nat_eq, List, [], ◌∷◌, ◌++◌, length, map, Option, Some, None, if◌then◌else◌}
use Rattle.sail_base.specs.declared.place.Place.{Place}
use Rattle.sail_syntax.specs.declared.expressions.FieldValue.{FieldValue}
use Rattle.sail_syntax.specs.declared.name.Name.{Name}
use Rattle.sail_types.specs.Named.{fields}
use Rattle.sail_types.specs.declared.shapes.Shape.{Shape, out-Shape}
use Rattle.sail_types.specs.declared.shapes.Shape.TheVariants as V
use Rattle.sail_core.specs.declared.tree.Kind.TheVariants as K
use Rattle.shape_joins.specs.Learning.{holes}
use Rattle.shape_rules.specs.declared.error.ShapeError.{ShapeError}
use Rattle.shape_rules.specs.declared.error.ShapeError.TheVariants as error
use Rattle.shape_rules.specs.Findings.{Found, over, settled, behind, unknown, ill_shaped}
use Rattle.shape_rules.specs.Scopes.{Setting, Locals}
use Rattle.shape_rules.specs.Calls.{Elaborate}
use Rattle.shape_rules.specs.Targets.{base_faults}
use Rattle.shape_rules.specs.Values.{Named, FieldPart, values_of, fields_named, field_count, variables_of_type, struct_place, named_place}
use Rattle.shape_calls.specs.Made.{made_of}
use Rattle.shape_calls.specs.declared.made.Made.{Made}
use Rattle.shape_forms.specs.declared.structs.FoundFields.{FoundFields}
use Rattle.shape_forms.specs.declared.structs.StructPlan.{StructPlan}
use Rattle.shape_forms.specs.declared.structs.WithPlan.{WithPlan}
use Rattle.shape_forms.specs.declared.structs.WithFields.{WithFields}
use Rattle.shape_walks.specs.declared.walks.Plan.TheVariants as P
use Rattle.shape_walks.specs.declared.walks.Walk.{Walk}
use Rattle.shape_walks.specs.Walks.{begun, known_shapes, each_taken, each_faults}
use Rattle.shape_walks.specs.Trees.{field_value}

abbrev pub named_of : FoundFields → Named
named_of found = record { places = found.places; shapes = found.shapes }

-- the values of fields, as what is found of each
abbrev pub values : List FieldValue → List Elaborate
values fs = values_of (map field_value fs)

-- ---- struct literals: the struct's place, its fields' places, and what is wanted of their values

abbrev pub params_walk : List Shape → List Shape → Walk
params_walk params known = begun (P.Params params known)

abbrev pub struct_counted : Setting → ℕ → ℕ → Option Named → Option StructPlan
struct_counted setting i count None = None
struct_counted setting i count (Some named) =
    if nat_eq (field_count (fields setting.types i)) count
    then Some (record { at = i; places = named.places; walk = params_walk named.shapes (holes (variables_of_type setting i)) })
    else None

abbrev pub struct_plan_at : Setting → List FieldPart → ℕ → Option StructPlan
struct_plan_at setting fs i = struct_counted setting i (length fs) (fields_named fs (fields setting.types i))

abbrev pub struct_plan_in : Setting → List FieldPart → Option ℕ → Option StructPlan
struct_plan_in setting fs None = None
struct_plan_in setting fs (Some i) = struct_plan_at setting fs i

abbrev pub struct_plan_of : Setting → Option Name → List FieldPart → Option StructPlan
struct_plan_of setting name fs = struct_plan_in setting fs (struct_place setting name fs)

abbrev pub count_faults : Place → ℕ → ℕ → Option StructPlan → List ShapeError
count_faults place wanted found (Some plan) = []
count_faults place wanted found None = error.Arity place wanted found ∷ []

abbrev pub struct_faults_at : Place → Setting → List FieldPart → Option ℕ → List ShapeError
struct_faults_at place setting fs None = ill_shaped place ∷ []
struct_faults_at place setting fs (Some i) =
    count_faults place (field_count (fields setting.types i)) (length fs) (struct_plan_at setting fs i)

abbrev pub struct_faults : Place → Setting → Option Name → List FieldPart → List ShapeError
struct_faults place setting name fs = struct_faults_at place setting fs (struct_place setting name fs)

unfoldable pub struct_made : Place → Shape → ℕ → List ℕ → Walk → Found
struct_made place want i places w = settled place want (V.Named i (known_shapes w.plan)) (λ s. over place (K.Struct i places) w.cores)

-- a struct literal by a walk over its fields' values
abbrev pub struct_walked : Place → List Elaborate → Setting → Locals → Shape → List ShapeError → Option StructPlan → Found
struct_walked place es setting locals want faults None = behind faults (unknown place)
struct_walked place es setting locals want faults (Some plan) =
    behind (each_faults es setting locals plan.walk) (struct_made place want plan.at plan.places (each_taken es setting locals plan.walk))

-- ---- a struct with other fields: where its base is one that has them

abbrev pub with_named_at : ℕ → List Shape → Option Named → WithPlan
with_named_at i ss None = record { fields = None; walk = begun (P.Each []) }
with_named_at i ss (Some named) = record {
  fields = Some (record { at = i; places = named.places });
  walk = params_walk named.shapes ss;
}

abbrev pub with_plan_at : Setting → List FieldPart → Option (ℕ × List Shape) → WithPlan
with_plan_at setting fs None = record { fields = None; walk = begun (P.Each []) }
with_plan_at setting fs (Some named) = with_named_at named.0 named.1 (fields_named fs (fields setting.types named.0))

abbrev pub with_plan_of : Setting → List FieldPart → Shape → WithPlan
with_plan_of setting fs s = with_plan_at setting fs (named_place (out-Shape s))

abbrev pub with_faults : Place → Shape → Option WithFields → List ShapeError
with_faults at_base s None = base_faults at_base s None
with_faults at_base s (Some fields) = []

abbrev pub with_fields_made : Place → Shape → Made → Walk → Option WithFields → Found
with_fields_made place want base w None =
    settled place want V.Never (λ s. over place (K.With 0 []) (base.core ∷ w.cores))
with_fields_made place want base w (Some fields) =
    settled place want (V.Named fields.at (known_shapes w.plan)) (λ s. over place (K.With fields.at fields.places) (base.core ∷ w.cores))

unfoldable pub with_made_of : Place → Shape → Made → Option WithFields → Walk → Found
with_made_of place want base fields w = with_fields_made place want base w fields

-- by a walk over its fields' values
abbrev pub with_walked : Place → Place → List Elaborate → Setting → Locals → Shape → Found → WithPlan → Found
with_walked place at_base es setting locals want a plan =
    behind (a.faults ++ with_faults at_base a.shape plan.fields ++ each_faults es setting locals plan.walk)
    (with_made_of place want (made_of a) plan.fields (each_taken es setting locals plan.walk))
