-- The walk over functions, their measures and mappings: their type variables, and their clauses.
use Rattle.std.specs.Prelude.{ℕ, zero, suc, Bool, true, false, List, [], ◌∷◌, length, map}
use Rattle.std.specs.Prelude.{Option, Some, None, unwrap_or, if◌then◌else◌}
use Rattle.sail_base.specs.declared.kind.Kind.{Kind}
use Rattle.sail_base.specs.declared.kind.Kind.TheVariants as AKind
use Rattle.sail_base.specs.declared.place.Place.{Place}
use Rattle.sail_types.specs.Sums.{variable}
use Rattle.sail_types.specs.declared.numbers.Con.{Con, out-Con}
use Rattle.sail_types.specs.declared.numbers.Con.TheVariants as C
use Rattle.sail_types.specs.declared.numbers.Index.{Index}
use Rattle.sail_types.specs.declared.numbers.Index.TheVariants as N
use Rattle.sail_types.specs.declared.table.Parameter.{Parameter}
use Rattle.sail_types.specs.declared.types.Typ.{Typ}
use Rattle.sail_core.specs.declared.model.Direction.{Direction}
use Rattle.sail_core.specs.declared.model.Function.{Function}
use Rattle.sail_core.specs.declared.patterns.Arm.{Arm}
use Rattle.sail_core.specs.declared.patterns.Arm.TheVariants as A
use Rattle.sail_core.specs.declared.patterns.Form.{Form}
use Rattle.sail_core.specs.declared.patterns.Form.TheVariants as F
use Rattle.sail_core.specs.declared.patterns.Pattern.{Pattern, Pattern-F, roll-Pattern, fold-Pattern}
use Rattle.sail_core.specs.declared.tree.Core.{Core, Core-F, out-Core}
use Rattle.sail_core.specs.declared.tree.Giver.{Giver}
use Rattle.sail_core.specs.declared.tree.Giver.TheVariants as Gives
use Rattle.sail_core.specs.declared.tree.Kind.{Kind as CoreKind}
use Rattle.sail_core.specs.declared.tree.Kind.TheVariants as K
use Rattle.sail_core.specs.declared.written.WrittenNumber.{WrittenNumber}
use Rattle.value_indices.specs.declared.indices.Indices.{Indices}
use Rattle.value_indices.specs.declared.indices.Reading.{Reading}
use Rattle.value_indices.specs.declared.indices.Reading.TheVariants as R
use Rattle.value_indices.specs.declared.indices.Naming.{Naming}
use Rattle.value_indices.specs.declared.indices.Naming.TheVariants as M
use Rattle.value_indices.specs.declared.notes.Made.TheVariants as Makes
use Rattle.value_indices.specs.Steps.{Walk, bind, give, assume, fresh_named, scoped, wrong, each}
use Rattle.value_indices.specs.Opening.{opened, opening}
use Rattle.pattern_leaves.specs.Settings.{Around, exponents_owed}
use Rattle.pattern_leaves.specs.declared.names.Bound.{Bound}
use Rattle.expression_notes.specs.Patterns.{Look, looks, arm_match}
use Rattle.expression_notes.specs.Matching.{Matching}
use Rattle.call_arguments.specs.declared.aims.Aim.{Aim}
use Rattle.call_arguments.specs.declared.aims.Aim.TheVariants as Aims
use Rattle.call_arguments.specs.Aims.{aimed}
use Rattle.call_arguments.specs.Placing.{is_trivial_form}
use Rattle.call_notes.specs.Noted.{names_given, node_given, node_made, numbers_noted}
use Rattle.expression_notes.specs.Nodes.{cast_ended}
use Rattle.expression_notes.specs.Parts.{Part}
use Rattle.expression_notes.specs.Statements.{natural_type}
use Rattle.expression_notes.specs.Expressions.{core_part, part}

-- ---- type variables: the first variables of a definition, with their names

abbrev pub variable_index : Kind → ℕ → Index
variable_index AKind.Bool v = N.Truth (C.Holds v)
variable_index kind v = N.Number (variable v)

abbrev pub own_index : Parameter → Walk Index
own_index p = bind (fresh_named p.name) (λ v. give (variable_index p.kind v))

abbrev pub own_indices : List Parameter → Walk (List Index)
own_indices = each own_index

-- a constraint is one fact
abbrev pub constrained : Con → Walk (Unit {0})
constrained c = if is_trivial_form (out-Con c) then give tt else assume c

-- ---- clauses of a function that no `val` declares: the types that are written at them are its own, and owe nothing

-- the one part, where it is asked for and there is one
abbrev pub only : {A : Type 0} → Bool → List A → Option A
only true (x ∷ []) = Some x
only asked xs = None

abbrev pub is_typed : Form → Bool
is_typed (F.Typed w) = true
is_typed form = false

abbrev pub bare_of : Pattern-F Pattern → Option Pattern → Pattern
bare_of p (Some q) = q
bare_of p None = roll-Pattern p

abbrev pub bare_form : Pattern-F Pattern → Pattern
bare_form p = bare_of p (only (is_typed p.form) p.parts)

abbrev pub bare_pattern : Pattern → Pattern
bare_pattern = fold-Pattern Pattern bare_form

abbrev pub bare_arm : Arm → Arm
bare_arm (A.Nested ps) = A.Nested (map bare_pattern ps)
bare_arm (A.Flat count steps) = A.Flat count steps

abbrev pub comes_to_written : CoreKind → Bool
comes_to_written (K.Cast (Some w)) = true
comes_to_written kind = false

-- the body behind `-> T`
abbrev pub behind_type : Core-F Core → Option Core
behind_type form = only (comes_to_written form.kind) form.parts

abbrev pub comes_to_result : CoreKind → Bool
comes_to_result (K.Cast None) = true
comes_to_result kind = false

-- a part that comes to what is wanted of it, by the node of a body
abbrev pub cast_over : Core-F Core → Part → Part
cast_over c a = core_part (record { place = c.place; number = c.number; kind = K.Cast None; parts = a ∷ [] })

-- a value that is what it is, by the node of a number
abbrev pub as_it_is : ℕ → Walk Indices → Walk Indices
as_it_is k first = bind (bind first (cast_ended k Aims.Free)) (node_given k)

-- the type is left out: the result's is made around it
abbrev pub passed_over : Core-F Core → Part → Part
passed_over c a = record (cast_over c a) { walk = λ around scope aim. as_it_is c.number (a.walk around scope aim) }

abbrev pub behind_part : Core → Option Core → Part
behind_part c (Some a) = passed_over (out-Core c) (part a)
behind_part c None = part c

abbrev pub bare_part : Core → Part
bare_part c = behind_part c (behind_type (out-Core c))

abbrev pub result_part : Core → Option Core → Part
result_part c (Some inside) = cast_over (out-Core c) (bare_part inside)
result_part c None = part c

-- where a body comes to the type of the result
abbrev pub bare_result : Core → Part
bare_result c = result_part c (only (comes_to_result (out-Core c).kind) (out-Core c).parts)

-- what stands behind the type that is written before a body
abbrev pub inside_result : Core → Option Core → Core
inside_result c None = c
inside_result c (Some inside) = unwrap_or (behind_type (out-Core inside)) c

abbrev pub unwritten : Core → Core
unwritten c = inside_result c (only (comes_to_result (out-Core c).kind) (out-Core c).parts)

abbrev pub arm_of : Bool → Arm → Arm
arm_of declared arm = if declared then arm else bare_arm arm

abbrev pub body_part : Bool → Core → Part
body_part declared c = if declared then part c else bare_result c

-- ---- clauses

abbrev pub parameter_naming : List Look → Naming
parameter_naming [] = M.Unnamed
parameter_naming (p ∷ ps) = p.naming

abbrev pub other_looks : List Look → List Look
other_looks [] = []
other_looks (p ∷ ps) = ps

-- a type under what its variables stand for
abbrev pub reading_under : Typ → List Index → Reading
reading_under t is = R.Of t is []

-- parameters, each opened for its name
abbrev pub parameter_opened : List Look → List Index → Typ → Walk Indices
parameter_opened ps is t = opening (reading_under t is) true (parameter_naming ps)

abbrev pub parameters_opened : List Look → List Index → List Typ → Walk (List Indices)
parameters_opened ps is [] = give []
parameters_opened ps is (t ∷ ts) =
    bind (parameter_opened ps is t) (λ i. bind (parameters_opened (other_looks ps) is ts) (λ more. give (i ∷ more)))

-- in a function's clause no type is owed already, and integer literals make nothing known
abbrev pub in_clause : Matching
in_clause = record { in_case = false; is_owed = false }

-- the names of its patterns, with the numbers that they and its parameters give
abbrev pub clause_names : Place → Giver → Around → Arm → List Indices → Walk (List Bound)
clause_names place g around arm is = bind (arm_match place arm around in_clause is) (names_given g is)

-- one clause: its parameters, the exponents that are owed once they are opened, its patterns, and its body
abbrev pub clause_walk : Place → Giver → Around → List Typ → List WrittenNumber → Aim → Arm → Part → Walk Indices
clause_walk place g around ts once aim arm body =
    scoped (bind (parameters_opened (looks arm) around.numbers ts) (λ is.
    bind (exponents_owed around once) (λ t.
    bind (clause_names place g around arm is) (λ found. body.walk around found aim))))

abbrev pub written_walk : Place → Giver → Around → List Typ → List WrittenNumber → Aim → Bool → Arm → Core → Walk Indices
written_walk place g around ts once aim declared arm body =
    clause_walk place g around ts once aim (arm_of declared arm) (body_part declared body)

-- those of the node of a number; exponents are owed in the first clause alone
abbrev pub clauses_walk : Place → ℕ → Around → List Typ → List WrittenNumber → Aim → Bool → List Arm → List Core → Walk (Unit {0})
clauses_walk place k around ts once aim declared [] [] = give tt
clauses_walk place k around ts once aim declared (arm ∷ arms) (body ∷ bodies) =
    bind (written_walk place (Gives.Arm k (length arms)) around ts once aim declared arm body)
    (λ i. clauses_walk place k around ts [] aim declared arms bodies)
clauses_walk place k around ts once aim declared arms bodies = wrong place

-- what the clause at a place owes of it
abbrev pub due_at : ℕ → List WrittenNumber → List WrittenNumber
due_at zero once = once
due_at (suc n) once = []

abbrev pub kind_clauses : Place → ℕ → Around → List Typ → List WrittenNumber → Aim → Bool → CoreKind → List Core → Walk (Unit {0})
kind_clauses place k around ts once aim declared (K.Clauses arms) bodies = clauses_walk place k around ts once aim declared arms bodies
kind_clauses place k around ts once aim declared kind bodies = wrong place

abbrev pub form_clauses : Around → List Typ → List WrittenNumber → Aim → Bool → Core-F Core → Walk (Unit {0})
form_clauses around ts once aim declared c = kind_clauses c.place c.number around ts once aim declared c.kind c.parts

abbrev pub clauses_of : Around → List Typ → List WrittenNumber → Aim → Bool → Core → Walk (Unit {0})
clauses_of around ts once aim declared core = form_clauses around ts once aim declared (out-Core core)

-- ---- functions and measures

abbrev pub inside_function : Around → Function → List Index → Around
inside_function around f is = record around { numbers = is; answer = Some (R.Of f.result is []) }

abbrev pub in_function : Around → Function → (Around → Walk (Unit {0})) → Walk (Unit {0})
in_function around f inner =
    bind (own_indices f.variables) (λ is. bind (constrained f.constraint) (λ t. inner (inside_function around f is)))

-- what the clauses give comes to the type of the result: the last of a function's numbers makes it
abbrev pub last_of : ℕ → Reading → Indices → Walk (Unit {0})
last_of k r i = bind (node_made k (i ∷ []) (Makes.ByIndices i)) (λ t. numbers_noted k i)

abbrev pub last_made : ℕ → Reading → Walk (Unit {0})
last_made k r = bind (opened r) (last_of k r)

abbrev pub function_clauses : Function → Around → Walk (Unit {0})
function_clauses f inner =
    clauses_of inner f.parameters f.numbers (aimed Aims.Due (R.Of f.result inner.numbers [])) f.is_declared f.body

abbrev pub body_walk : Function → Around → Walk (Unit {0})
body_walk f inner = bind (function_clauses f inner) (λ t. last_made f.last (R.Of f.result inner.numbers []))

abbrev pub function_walk : Around → Function → Walk (Unit {0})
function_walk around f = in_function around f (body_walk f)

abbrev pub measured_walk : Function → Core → Around → Walk (Unit {0})
measured_walk f measure inner = clauses_of inner f.parameters [] (Aims.Due natural_type) true measure

abbrev pub measure_walk : Around → Function → Core → Walk (Unit {0})
measure_walk around f measure = in_function around f (measured_walk f measure)

-- ---- mappings: each clause forwards and then backwards

-- what an arm of a direction gives numbers by, behind which so many stand
abbrev pub direction_giver : Direction → ℕ → Giver
direction_giver m behind = Gives.Arm (out-Core m.body).number behind

abbrev pub direction_walk : Place → Around → Direction → ℕ → Arm → Core → Walk Indices
direction_walk place around m behind arm body =
    clause_walk place (direction_giver m behind) around (m.parameter ∷ []) [] (aimed Aims.Due (R.Of m.result [] [])) arm (part body)

abbrev pub both_walk : Place → Around → Direction → Direction → List Arm → List Core → List Arm → List Core → Walk (Unit {0})
both_walk place around m n [] [] [] [] = give tt
both_walk place around m n (arm ∷ arms) (body ∷ bodies) (back ∷ backs) (given ∷ givens) =
    bind (direction_walk place around m (length arms) arm body) (λ i.
    bind (direction_walk place around n (length backs) back given) (λ j.
    both_walk place around m n arms bodies backs givens))
both_walk place around m n arms bodies backs givens = wrong place

abbrev pub clause_arms : CoreKind → Option (List Arm)
clause_arms (K.Clauses arms) = Some arms
clause_arms kind = None

abbrev pub arms_walk : Around → Direction → Direction → Option (List Arm) → List Core → Option (List Arm) → List Core → Walk (Unit {0})
arms_walk around m n (Some arms) bodies (Some backs) givens = both_walk m.place around m n arms bodies backs givens
arms_walk around m n arms bodies backs givens = wrong m.place

abbrev pub forms_walk : Around → Direction → Direction → Core-F Core → Core-F Core → Walk (Unit {0})
forms_walk around m n c d = arms_walk around m n (clause_arms c.kind) c.parts (clause_arms d.kind) d.parts

abbrev pub mapping_walk : Around → Direction → Direction → Walk (Unit {0})
mapping_walk around m n = forms_walk around m n (out-Core m.body) (out-Core n.body)
