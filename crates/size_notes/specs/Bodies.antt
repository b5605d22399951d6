-- What is read of a model for its instances: the notes of the walks over its definitions, with the types of parameters, each at its pattern,
-- and the sizes in types that are written in bodies.
use Rattle.std.specs.Prelude.{ℕ, Bool, true, if◌then◌else◌, List, [], ◌∷◌, ◌++◌, length, map, Option, Some, None}
use Rattle.sail_base.specs.declared.place.Place.{Place}
use Rattle.sail_types.specs.declared.numbers.Con.{Con}
use Rattle.sail_types.specs.declared.numbers.Con.TheVariants as C
use Rattle.sail_types.specs.declared.numbers.Index.{Index}
use Rattle.sail_types.specs.declared.types.Typ.{Typ}
use Rattle.sail_core.specs.declared.model.CoreModel.{CoreModel}
use Rattle.sail_core.specs.declared.model.Direction.{Direction}
use Rattle.sail_core.specs.declared.model.Function.{Function}
use Rattle.sail_core.specs.declared.model.Opening.{Opening}
use Rattle.sail_core.specs.declared.model.OpeningKind.{OpeningKind}
use Rattle.sail_core.specs.declared.model.OpeningKind.TheVariants as O
use Rattle.sail_core.specs.declared.patterns.Arm.{Arm}
use Rattle.sail_core.specs.declared.patterns.Pattern.{Pattern, Pattern-F, out-Pattern}
use Rattle.sail_core.specs.declared.tree.Core.{Core, Core-F, out-Core}
use Rattle.sail_core.specs.declared.tree.Giver.{Giver}
use Rattle.sail_core.specs.declared.tree.Giver.TheVariants as Gives
use Rattle.sail_core.specs.declared.tree.Kind.{Kind}
use Rattle.sail_core.specs.declared.tree.Kind.TheVariants as K
use Rattle.value_indices.specs.declared.indices.Indices.{Indices}
use Rattle.value_indices.specs.declared.indices.Reading.{Reading}
use Rattle.value_indices.specs.declared.indices.Reading.TheVariants as R
use Rattle.value_indices.specs.declared.notes.Made.TheVariants as Makes
use Rattle.value_indices.specs.Steps.{Walk, went, bind, give, note, size_note}
use Rattle.value_indices.specs.Opening.{opening}
use Rattle.pattern_leaves.specs.Settings.{Around}
use Rattle.constraint_gen.specs.Patterns.{look, nested}
use Rattle.call_arguments.specs.Aims.{aimed}
use Rattle.call_arguments.specs.declared.aims.Aim.{Aim}
use Rattle.call_arguments.specs.declared.aims.Aim.TheVariants as Aims
use Rattle.constraint_gen.specs.Expressions.{part}
use Rattle.constraint_gen.specs.Statements.{natural_type}
use Rattle.constraint_gen.specs.Functions.{arm_of, constrained, direction_giver, inside_function, last_made, own_indices, reading_under, unwritten}
use Rattle.constraint_gen.specs.Functions.{written_walk}
use Rattle.constraint_gen.specs.Models.{around_of, around_with, behind_opening, opening_walk}
use Rattle.constraint_gen.specs.Obligations.{names_of}
use Rattle.size_splits.specs.Bodies.{Body, body_read}
use Rattle.size_notes.specs.declared.written.WrittenSize.{WrittenSize}
use Rattle.size_notes.specs.declared.behind.Behind.{Behind}
use Rattle.size_notes.specs.declared.models.ModelBodies.{ModelBodies}
use Rattle.size_notes.specs.Behind.{all_behind, arm_sizes, found_in, node_of, notes_with}

-- ---- parameters: each type is read at its pattern before it is opened

abbrev pub pattern_place : Pattern-F Pattern → Place
pattern_place p = p.place

abbrev pub parameter_read : List Index → Pattern → Typ → Walk Indices
parameter_read is p t =
    bind (note (λ facts. size_note facts (pattern_place (out-Pattern p)) (Makes.ByType (reading_under t is)))) (λ x.
    opening (reading_under t is) true (look p).naming)

abbrev pub parameters_read : List Index → List Pattern → List Typ → Walk (Unit {0})
parameters_read is (p ∷ ps) (t ∷ ts) = bind (parameter_read is p t) (λ i. parameters_read is ps ts)
parameters_read is ps ts = give tt

-- sizes that are written, each at its place
abbrev pub sizes_read : List WrittenSize → Walk (Unit {0})
sizes_read [] = give tt
sizes_read (s ∷ ss) = bind (note (λ facts. size_note facts s.place (Makes.ByIndices s.size))) (λ x. sizes_read ss)

-- the types of parameters, then those that are written at them
abbrev pub arm_read : Around → List Typ → Arm → Walk (Unit {0})
arm_read around ts arm =
    bind (parameters_read around.numbers (nested arm) ts) (λ x. sizes_read (arm_sizes around.numbers arm))

-- the notes of a walk alone: its facts and variables are those of what comes behind it
unfoldable pub beforehand : Walk (Unit {0}) → Walk (Unit {0})
beforehand walk facts n = went tt facts n (walk facts n).notes

-- ---- clauses

-- a walk of its own, before which nothing is in force, with the sizes of the types that are written in it
unfoldable pub alone : {A : Type 0} → List Behind → Walk A → Walk (Unit {0})
alone bs walk facts n = went tt facts (walk [] n).next (notes_with bs (walk [] n).notes)

-- a clause under the constraint of its function; what exponents owe is of no matter here
abbrev pub clause_inside : Con → Place → Giver → Around → List Typ → Aim → Bool → Arm → Core → Walk Indices
clause_inside con place g around ts aim declared arm c =
    bind (constrained con) (λ t.
    bind (beforehand (arm_read around ts (arm_of declared arm))) (λ x. written_walk place g around ts [] aim declared arm c))

-- a body as its types are read: of what no `val` declares, the one before it is of no matter
abbrev pub sized_body : Bool → Core → Core
sized_body declared c = if declared then c else unwritten c

abbrev pub clause_read : Con → Place → Giver → Around → List Typ → Aim → Bool → Arm → Core → Walk (Unit {0})
clause_read con place g around ts aim declared arm c =
    alone (found_in (node_of around.numbers (sized_body declared c))) (clause_inside con place g around ts aim declared arm c)

abbrev pub arms_read : Con → Place → ℕ → Around → List Typ → Aim → Bool → List Arm → List Core → Walk (Unit {0})
arms_read con place k around ts aim declared (arm ∷ arms) (c ∷ cs) =
    bind (clause_read con place (Gives.Arm k (length arms)) around ts aim declared arm c)
    (λ t. arms_read con place k around ts aim declared arms cs)
arms_read con place k around ts aim declared arms cs = give tt

abbrev pub kind_arms : Kind → List Arm
kind_arms (K.Clauses arms) = arms
kind_arms kind = []

abbrev pub kind_in : Core-F Core → Kind
kind_in c = c.kind

abbrev pub core_kind : Core → Kind
core_kind core = kind_in (out-Core core)

abbrev pub form_read : Con → Around → List Typ → Aim → Bool → Core-F Core → Walk (Unit {0})
form_read con around ts aim declared c = arms_read con c.place c.number around ts aim declared (kind_arms c.kind) c.parts

abbrev pub clauses_read : Con → Around → List Typ → Aim → Bool → Core → Walk (Unit {0})
clauses_read con around ts aim declared core = form_read con around ts aim declared (out-Core core)

-- ---- functions and their measures

-- the sizes of the type of what the clauses give
abbrev pub result_read : Place → Reading → Walk (Unit {0})
result_read place r = note (λ facts. size_note facts place (Makes.ByType r))

-- what the clauses give, under the constraint too: its type is read before
abbrev pub last_inside : Con → Place → ℕ → Reading → Walk (Unit {0})
last_inside con place k r = bind (constrained con) (λ t. bind (result_read place r) (λ x. last_made k r))

abbrev pub last_read : Con → Place → ℕ → Reading → Walk (Unit {0})
last_read con place k r = alone [] (last_inside con place k r)

abbrev pub function_arms : Around → Function → List Index → Walk (Unit {0})
function_arms around f is =
    clauses_read f.constraint (inside_function around f is) f.parameters (aimed Aims.Due (reading_under f.result is)) f.is_declared f.body

abbrev pub declared_read : Around → Function → List Index → Walk (Unit {0})
declared_read around f is = bind (function_arms around f is) (λ t. last_read f.constraint f.place f.last (reading_under f.result is))

abbrev pub function_read : Around → Function → Walk (Unit {0})
function_read around f = bind (own_indices f.variables) (declared_read around f)

abbrev pub measured_read : Around → Function → Core → List Index → Walk (Unit {0})
measured_read around f measure is =
    clauses_read f.constraint (inside_function around f is) f.parameters (Aims.Due natural_type) true measure

abbrev pub measure_read : Around → Function → Core → Walk (Unit {0})
measure_read around f measure = bind (own_indices f.variables) (measured_read around f measure)

-- ---- mappings: each clause forwards, then backwards

abbrev pub way_read : Place → Around → Direction → ℕ → Arm → Core → Walk (Unit {0})
way_read place around m behind arm c =
    clause_read (C.Truth true) place (direction_giver m behind) around (m.parameter ∷ []) (aimed Aims.Due (R.Of m.result [] [])) true arm c

abbrev pub both_read : Place → Around → Direction → Direction → List Arm → List Core → List Arm → List Core → Walk (Unit {0})
both_read place around m n (arm ∷ arms) (c ∷ cs) (back ∷ backs) (d ∷ ds) =
    bind (way_read place around m (length arms) arm c) (λ t.
    bind (way_read place around n (length backs) back d) (λ u. both_read place around m n arms cs backs ds))
both_read place around m n arms cs backs ds = give tt

abbrev pub forms_read : Around → Direction → Direction → Core-F Core → Core-F Core → Walk (Unit {0})
forms_read around m n c d = both_read m.place around m n (kind_arms c.kind) c.parts (kind_arms d.kind) d.parts

abbrev pub mapping_read : Around → Direction → Direction → Walk (Unit {0})
mapping_read around m n = forms_read around m n (out-Core m.body) (out-Core n.body)

-- ---- top-level lets and initial values; behind the value of a let stand the types in its pattern

abbrev pub opening_sizes : Around → OpeningKind → List WrittenSize
opening_sizes around (O.Let arm) = arm_sizes around.numbers arm
opening_sizes around (O.Register r) = []

abbrev pub core_number : Core-F Core → ℕ
core_number c = c.number

abbrev pub opening_behind : Around → Opening → List Behind
opening_behind around o =
    found_in (node_of around.numbers o.value) ++ all_behind (core_number (out-Core o.value)) (opening_sizes around o.kind)

abbrev pub opening_read : Around → Opening → Walk (Unit {0})
opening_read around o = alone (opening_behind around o) (opening_walk around o.place o.kind (part o.value))

-- ---- the bodies of a model

-- from nothing
abbrev pub body_of : Walk (Unit {0}) → Body
body_of walk = record {
  notes = (walk [] 0).notes;
  variables = (walk [] 0).next;
  names = names_of (walk [] 0).next (walk [] 0).notes;
}

abbrev pub measure_bodies : Around → Function → Option Core → List Body
measure_bodies around f None = []
measure_bodies around f (Some measure) = body_of (measure_read around f measure) ∷ []

-- the measure before the body
abbrev pub function_bodies : Around → Function → List Body
function_bodies around f = measure_bodies around f f.measure ++ body_of (function_read around f) ∷ []

-- a mapping is read as a whole; forwards stands before backwards
abbrev pub mapping_bodies : Around → List Direction → List Body
mapping_bodies around (m ∷ n ∷ ms) = body_of (mapping_read around m n) ∷ mapping_bodies around ms
mapping_bodies around ms = []

abbrev pub opening_body : Around → Opening → Body
opening_body around o = body_of (opening_read around o)

-- each behind the names of the lets before it
abbrev pub opening_bodies : Around → List Opening → List Body
opening_bodies around [] = []
opening_bodies around (o ∷ os) = opening_body around o ∷ opening_bodies (behind_opening around o) os

pub record Bodies : Type 0 where
  -- for each function its measure, where it has one, and its body
  pub functions : List (List Body)
  pub mappings : List Body
  -- of top-level lets and initial values
  pub openings : List Body

abbrev pub bodies_under : CoreModel → Around → Bodies
bodies_under m around = record {
  functions = map (function_bodies around) m.functions;
  mappings = mapping_bodies around m.directions;
  openings = opening_bodies (around_with m []) m.openings;
}

abbrev pub bodies_of : CoreModel → Bodies
bodies_of m = bodies_under m (around_of m)

-- as the code has them: by their steps
abbrev pub model_read : ModelBodies → Bodies
model_read bodies = record {
  functions = map (map body_read) bodies.functions;
  mappings = map body_read bodies.mappings;
  openings = map body_read bodies.openings;
}
