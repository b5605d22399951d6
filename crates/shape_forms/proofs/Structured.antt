-- Struct literals, and structs with other fields, find what the definitions find, by walks.
use Rattle.std.proofs.Common.{◌∙◌, ◌≡◌, ◌≤◌, ℕ, suc, Bool, true, false, if◌then◌else◌, nat_eq, List, [], ◌∷◌, ◌++◌, length, Option, Some, None}
use Rattle.std.proofs.Common.{refl, sym, ap, arith}
use Rattle.std.proofs.lemmas.List.{append-nil}
use Rattle.sail_base.specs.declared.place.Place.{Place}
use Rattle.sail_syntax.specs.declared.name.Name.{Name}
use Rattle.sail_types.specs.Named.{fields}
use Rattle.sail_types.specs.declared.table.Field.{Field}
use Rattle.sail_types.specs.declared.shapes.Shape.{Shape, out-Shape}
use Rattle.sail_types.specs.declared.shapes.Shape.TheVariants as V
use Rattle.sail_core.specs.declared.tree.Kind.TheVariants as K
use Rattle.shape_joins.specs.Learning.{holes}
use Rattle.shape_rules.specs.declared.error.ShapeError.{ShapeError}
use Rattle.shape_rules.specs.declared.error.ShapeError.TheVariants as error
use Rattle.shape_rules.specs.Findings.{Found, over, settled, behind, refused, unknown}
use Rattle.shape_rules.specs.Scopes.{Setting, Locals}
use Rattle.shape_rules.specs.Calls.{Elaborate, solved}
use Rattle.shape_rules.specs.Targets.{InStruct, field_in, base_faults}
use Rattle.shape_rules.specs.Values.{FieldPart, values_of, Named, fields_named, also_named, field_count, variables_of_type, parts_found}
use Rattle.shape_rules.specs.Values.{struct_found, struct_at, struct_named, struct_solved, struct_place, with_base, with_of, with_failed, with_named, with_values, named_place}
use Rattle.shape_walks.specs.declared.walks.Plan.TheVariants as P
use Rattle.shape_walks.specs.declared.walks.Walk.{Walk}
use Rattle.shape_walks.specs.Walks.{begun, known_shapes, each_taken, each_faults}
use Rattle.shape_forms.specs.Structs.{params_walk, struct_plan_of, struct_plan_in, struct_counted}
use Rattle.shape_forms.specs.Structs.{struct_faults, struct_faults_at, count_faults, struct_made, struct_walked}
use Rattle.shape_forms.specs.Structs.{with_plan_of, with_plan_at, with_named_at, with_walked, with_made_of}
use Rattle.shape_walks.proofs.Walked.{each_faults_is, each_cores, solved_walked}

-- as many shapes as fields
named_count_behind : (f : Option InStruct) (more : Option Named) (named : Named) (count : ℕ)
    → ((others : Named) → more ≡ Some others → length others.shapes ≡ count) → also_named f more ≡ Some named → length named.shapes ≡ suc count
named_count_behind None more named count rest h = absurd (cc)
named_count_behind (Some f) None named count rest h = absurd (cc)
named_count_behind (Some f) (Some others) named count rest h = grind (arith, ap suc (rest others refl))

named_count : (fs : List FieldPart) (known : Option (List Field)) (named : Named) → fields_named fs known ≡ Some named
    → length named.shapes ≡ length fs
named_count [] known named h = grind arith
named_count (f ∷ fs) known named h =
    named_count_behind (field_in f.name.text known) (fields_named fs known) named (length fs) (named_count fs known) h

count_values : (fs : List FieldPart) → length (values_of fs) ≡ length fs
count_values [] = refl
count_values (f ∷ fs) = ap suc (count_values fs)

solved_struct : (place : Place) (i : ℕ) (es : List Elaborate) (setting : Setting) (locals : Locals) (want : Shape) (named : Named) (known : List Shape)
    → length es ≤ length named.shapes
    → struct_solved place want i named.places (solved es setting locals named.shapes known)
    ≡ behind (each_faults es setting locals (params_walk named.shapes known))
    (struct_made place want i named.places (each_taken es setting locals (params_walk named.shapes known)))
unfolding struct_made
solved_struct place i es setting locals want named known h =
    ap (struct_solved place want i named.places) (solved_walked es setting locals named.shapes known h)

struct_if : (place : Place) (i wanted : ℕ) (fs : List FieldPart) (setting : Setting) (locals : Locals) (want : Shape) (named : Named) (known : List Shape)
    (b : Bool) → length (values_of fs) ≤ length named.shapes
    → (if b then struct_solved place want i named.places (solved (values_of fs) setting locals named.shapes known)
    else refused (error.Arity place wanted (length fs)))
    ≡ struct_walked place (values_of fs) setting locals want
    (count_faults place wanted (length fs) (if b then Some (record { at = i; places = named.places; walk = params_walk named.shapes known }) else None))
    (if b then Some (record { at = i; places = named.places; walk = params_walk named.shapes known }) else None)
struct_if place i wanted fs setting locals want named known true h =
    solved_struct place i (values_of fs) setting locals want named known h
struct_if place i wanted fs setting locals want named known false h = refl

struct_named_is : (place : Place) (i : ℕ) (fs : List FieldPart) (setting : Setting) (locals : Locals) (want : Shape) (found : Option Named)
    → ((named : Named) → found ≡ Some named → length named.shapes ≡ length fs)
    → struct_named place i fs found setting locals want
    ≡ struct_walked place (values_of fs) setting locals want
    (count_faults place (field_count (fields setting.types i)) (length fs) (struct_counted setting i (length fs) found))
    (struct_counted setting i (length fs) found)
struct_named_is place i fs setting locals want None count = refl
struct_named_is place i fs setting locals want (Some named) count =
    let many : length named.shapes ≡ length fs = count named refl in
    let values : length (values_of fs) ≡ length fs = count_values fs in
    let less : length (values_of fs) ≤ length named.shapes = omega arith in
    struct_if place i (field_count (fields setting.types i)) fs setting locals want named (holes (variables_of_type setting i))
    (nat_eq (field_count (fields setting.types i)) (length fs)) less

struct_at_is : (place : Place) (fs : List FieldPart) (setting : Setting) (locals : Locals) (want : Shape) (at : Option ℕ)
    → struct_at place fs at setting locals want
    ≡ struct_walked place (values_of fs) setting locals want (struct_faults_at place setting fs at) (struct_plan_in setting fs at)
struct_at_is place fs setting locals want None = refl
struct_at_is place fs setting locals want (Some i) =
    struct_named_is place i fs setting locals want (fields_named fs (fields setting.types i)) (named_count fs (fields setting.types i))

pub struct_is : (place : Place) (name : Option Name) (fs : List FieldPart) (setting : Setting) (locals : Locals) (want : Shape)
    → struct_found place name fs setting locals want
    ≡ struct_walked place (values_of fs) setting locals want (struct_faults place setting name fs) (struct_plan_of setting name fs)
struct_is place name fs setting locals want = struct_at_is place fs setting locals want (struct_place setting name fs)

-- ---- a struct with other fields

with_none : (place at_base : Place) (fs : List FieldPart) (a : Found) (setting : Setting) (locals : Locals) (want : Shape)
    → with_failed place at_base fs a setting locals want
    ≡ with_walked place at_base (values_of fs) setting locals want a (record { fields = None; walk = begun (P.Each []) })
unfolding with_made_of
with_none place at_base fs a setting locals want =
    let faults = sym (each_faults_is (values_of fs) setting locals []) in
    let cores = sym (each_cores (values_of fs) setting locals []) in
    λ i. behind ((a.faults ++ base_faults at_base a.shape None) ++ faults i)
    (settled place want V.Never (λ s. over place (K.With 0 []) (a.core ∷ cores i)))

with_solved : (place at_base : Place) (es : List Elaborate) (a : Found) (setting : Setting) (locals : Locals) (want : Shape) (i : ℕ) (ss : List Shape)
    (named : Named) → length es ≤ length named.shapes
    → with_values place want i a named.places (solved es setting locals named.shapes ss)
    ≡ with_walked place at_base es setting locals want a (with_named_at i ss (Some named))
unfolding with_made_of
with_solved place at_base es a setting locals want i ss named h =
    let faults : List ShapeError = each_faults es setting locals (params_walk named.shapes ss) in
    let w : Walk = each_taken es setting locals (params_walk named.shapes ss) in
    ap (with_values place want i a named.places) (solved_walked es setting locals named.shapes ss h)
    ∙ ap (λ (before : List ShapeError). behind (before ++ faults)
    (settled place want (V.Named i (known_shapes w.plan)) (λ s. over place (K.With i named.places) (a.core ∷ w.cores)))) (sym (append-nil a.faults))

with_named_is : (place at_base : Place) (fs : List FieldPart) (a : Found) (setting : Setting) (locals : Locals) (want : Shape) (i : ℕ) (ss : List Shape)
    (found : Option Named) → ((named : Named) → found ≡ Some named → length named.shapes ≡ length fs)
    → with_named place at_base fs a i ss found setting locals want
    ≡ with_walked place at_base (values_of fs) setting locals want a (with_named_at i ss found)
unfolding with_made_of
with_named_is place at_base fs a setting locals want i ss None count = with_none place at_base fs a setting locals want
with_named_is place at_base fs a setting locals want i ss (Some named) count =
    let many : length named.shapes ≡ length fs = count named refl in
    let values : length (values_of fs) ≡ length fs = count_values fs in
    let less : length (values_of fs) ≤ length named.shapes = omega arith in
    with_solved place at_base (values_of fs) a setting locals want i ss named less

with_of_is : (place at_base : Place) (fs : List FieldPart) (a : Found) (setting : Setting) (locals : Locals) (want : Shape)
    (named : Option (ℕ × List Shape))
    → with_of place at_base fs a named setting locals want
    ≡ with_walked place at_base (values_of fs) setting locals want a (with_plan_at setting fs named)
with_of_is place at_base fs a setting locals want None = with_none place at_base fs a setting locals want
with_of_is place at_base fs a setting locals want (Some named) =
    with_named_is place at_base fs a setting locals want named.0 named.1 (fields_named fs (fields setting.types named.0))
    (named_count fs (fields setting.types named.0))

pub with_is : (place at_base : Place) (fs : List FieldPart) (a : Found) (setting : Setting) (locals : Locals) (want : Shape)
    → with_base place at_base fs a setting locals want
    ≡ with_walked place at_base (values_of fs) setting locals want a (with_plan_of setting fs a.shape)
with_is place at_base fs a setting locals want = with_of_is place at_base fs a setting locals want (named_place (out-Shape a.shape))
